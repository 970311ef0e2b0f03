-- Each call's table law, under one name. Assumes nothing.
use mathlib.Core.Path.{◌≡◌}
use mathlib.Core.Bool.{true}
use mathlib.Core.List.{List}
use Prim.Native.Nat.{ℕ}
use Rattle.store.specs.Table.{Table}
use Rattle.store.specs.Layout.{Store, table_of, undamaged_of}
use Rattle.store.specs.Judged.{Judged, table_after, store_after, on_state}
use Rattle.store.proofs.Laws.{undamaged-is}
use Rattle.store.proofs.Judged.{Lays, on-undamaged, after_table, after-undamaged, fresh-full, fresh-is, fresh-undamaged}
use Rattle.writes.specs.Writes.{change_write, change_store}
use Rattle.writes.proofs.Laws.{line-table, line-undamaged, change_lays}
use Rattle.revoke.proofs.Laid.{revoke-table, revoke-undamaged}
use Rattle.onlycap.specs.Onlycap.{onlycap_write, onlycap_store}
use Rattle.onlycap.proofs.Laid.{onlycap_lays}
use Rattle.cipso.specs.Cipso.{mapping_write, map_stored}
use Rattle.cipso.proofs.Laws.{mapping-write_lays}
use Rattle.lists.specs.Tables.{Leaves, TablesFollow}

-- what a write leaves of a tested state, from what it lays
leaves : (st : Store) (write : Table → Judged) (u : undamaged_of st ≡ true) → Lays (write (table_of st)) → Leaves (store_after st (on_state st write)) (table_after (table_of st) (write (table_of st)))
leaves st write u f =
    rw (on-undamaged st write u)
    (record { table = after_table st (undamaged-is st u) (write (table_of st)) f; undamaged = after-undamaged st (undamaged-is st u) (write (table_of st)) f })

change-leaves : (st : Store) (text : List ℕ) → undamaged_of st ≡ true → Leaves (change_store st text) (table_after (table_of st) (change_write text (table_of st)))
unfolding change_store
change-leaves st text u = leaves st (change_write text) u (change_lays st text u)

onlycap-leaves : (st : Store) (text : List ℕ) → undamaged_of st ≡ true → Leaves (onlycap_store st text) (table_after (table_of st) (onlycap_write text (table_of st)))
unfolding onlycap_store
onlycap-leaves st text u = leaves st (onlycap_write text) u (onlycap_lays st text (undamaged-is st u))

mapping-leaves : (st : Store) (text : List ℕ) → undamaged_of st ≡ true → Leaves (map_stored st text) (table_after (table_of st) (mapping_write text (table_of st)))
unfolding map_stored
mapping-leaves st text u = leaves st (mapping_write text) u (mapping-write_lays st text (undamaged-is st u))

pub tables_follow : TablesFollow
tables_follow =
    record {
      fresh_table = λ st q. record { table = fresh-is st (fresh-full st q); undamaged = fresh-undamaged st (fresh-full st q) };
      line = λ st text u. record { table = line-table st text u; undamaged = line-undamaged st text u };
      change = change-leaves;
      revoke = λ st label u. record { table = revoke-table st (undamaged-is st u) label; undamaged = revoke-undamaged st (undamaged-is st u) label };
      onlycap = onlycap-leaves;
      mapping = mapping-leaves;
    }
