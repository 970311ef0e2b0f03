-- A place in the label, counted from where the label begins, is small.
use Rattle.std.proofs.Common.{ap, arith}
use Rattle.refusals.specs.Refusals.{place_of}
use Rattle.alphabet.proofs.Places.{bad_byte_small}
use Rattle.alphabet.proofs.bad_label_at.Goals as goal

pub overflow_add-result : goal.overflow_add-result
overflow_add-result c = record { fits = omega (arith, c.place.ensures, ap place_of c.bad_label.ensures, bad_byte_small c.args.label.now, c.requires) }
