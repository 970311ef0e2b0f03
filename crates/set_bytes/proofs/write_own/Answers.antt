-- The bytes of the set's own words.
use Rattle.std.proofs.Common.{sym, ap, ◌∙◌}
use Rattle.search.specs.Bytes.{written}
use Rattle.set_bytes.proofs.Laws.{own-bytes}
use Rattle.set_bytes.proofs.write_own.Goals as goal

pub returns : goal.returns
returns c = c.write_bytes.ensures ∙ ap (written c.args.out.now 0) (sym (own-bytes c.args.set))
