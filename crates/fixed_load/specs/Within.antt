-- What the functions within the crate say; nobody has to believe it. Assumes nothing.
use Rattle.std.specs.Prelude.{ℕ, cond, List, length, Option, Some, None}
use Rattle.fixed_load.specs.Records.{place_label, is_place}

-- how many bytes the label of a place has, or nothing where the place holds none
abbrev pub placed : List ℕ → Option ℕ
placed p = cond (is_place p) (Some (length (place_label p))) None
