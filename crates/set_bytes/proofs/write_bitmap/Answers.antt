-- The bytes of the number one bit further down.
use Rattle.std.proofs.Common.{sym, ap, ◌∙◌}
use Rattle.search.specs.Search.{entries}
use Rattle.search.specs.Bytes.{written}
use Rattle.numbers.specs.Categories.{byte_of}
use Rattle.numbers.specs.declared.CategorySet.{CategorySet}
use Rattle.set_bytes.proofs.Laws.{bitmap-bytes}
use Rattle.set_bytes.proofs.write_bitmap.Goals as goal

pub returns : goal.returns
returns c =
    let a = c.args in
    c.write_bytes.ensures
    ∙ ap (λ (x : CategorySet). written a.out.now a.at (entries (byte_of x) 24)) c.halve-half.ensures
    ∙ ap (written a.out.now a.at) (sym (bitmap-bytes a.set))
