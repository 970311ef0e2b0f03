-- No exported function has a `requires`, and what its caller learns is the promise as it stands.
use mathlib.Core.Path.{refl}
use Rattle.claims.proofs.demand_1_every_call_answers.Goals as goal

pub returns : goal.returns
returns c =
    record {
      fresh_table = record { free = λ κs a. tt; says = λ κs a r l learnt. (learnt.0, learnt.1, refl) };
      fresh_loader_is = record { free = λ κs a. tt; says = λ κs a r l learnt. learnt };
      piece = record { free = λ κs a. tt; says = λ κs a r l learnt. (learnt.0, learnt.1, refl) };
      end_call = record { free = λ κs a. tt; says = λ κs a r l learnt. learnt };
      change = record { free = λ κs a. tt; says = λ κs a r l learnt. (learnt.0, learnt.1, refl) };
      revoke = record { free = λ κs a. tt; says = λ κs a r l learnt. (learnt.0, learnt.1, refl, refl, refl) };
      onlycap = record { free = λ κs a. tt; says = λ κs a r l learnt. (learnt.0, learnt.1, refl) };
      mapping = record { free = λ κs a. tt; says = λ κs a r l learnt. (learnt.0, learnt.1, refl) };
      mapping_by_label = record { free = λ κs a. tt; says = λ κs a r l learnt. (learnt, refl) };
      by_level_and_set = record { free = λ κs a. tt; says = λ κs a r l learnt. (learnt, refl) };
      in_three_slices = record { free = λ κs a. tt; says = λ κs a r l learnt. (learnt, refl) };
      in_a_run = record { free = λ κs a. tt; says = λ κs a r l learnt. (learnt, refl) };
      question = record { free = λ κs a. tt; says = λ κs a r l learnt. (learnt, refl) };
      listing = record { free = λ κs a. tt; says = λ κs a r l learnt. (learnt.0, learnt.1, refl, refl, refl) };
      record_to_line = record { free = λ κs a. tt; says = λ κs a r l learnt. (learnt.0, learnt.1, refl) };
      line_to_record = record { free = λ κs a. tt; says = λ κs a r l learnt. (learnt.0, learnt.1, refl) };
      write_option = record { free = λ κs a. tt; says = λ κs a r l learnt. (learnt.0, learnt.1, refl, refl, refl, refl) };
      read_option = record { free = λ κs a. tt; says = λ κs a r l learnt. (learnt, refl) };
      new_object = record { free = λ κs a. tt; says = λ κs a r l learnt. (learnt, refl) };
      label_check = record { free = λ κs a. tt; says = λ κs a r l learnt. (learnt, refl) };
      label_by_number = record { free = λ κs a. tt; says = λ κs a r l learnt. (learnt.0, learnt.1, refl) };
      label_part = record { free = λ κs a. tt; says = λ κs a r l learnt. (learnt.0, learnt.1, refl) };
    }
