-- Ten bytes, and behind them the bitmap without its trailing zero bytes.
use Rattle.std.proofs.Common.{List, ℕ, ◌≡◌, ◌≤◌, ◌-◌, length, take, refl, ap, ◌∙◌, arith}
use lib.ListN.{length-take}
use Rattle.output.specs.Output.{put_answer, put_out}
use Rattle.set_bytes.specs.SetBytes.{bitmap_bytes}
use Rattle.set_bytes.proofs.Laws.{bitmap-length}
use Rattle.numbers.specs.declared.CategorySet.{CategorySet}
use Rattle.search.specs.Bytes.{written}
use Rattle.cipso_option.specs.Option.{trimmed, option_of}
use Rattle.cipso_option.proofs.Laws.{bitmap-whole, trimmed_fits, front-trimmed, option_front}
use Rattle.cipso_option.proofs.put_option.Goals as goal

-- the bitmap b that was written over d, of which n bytes are kept
module _ (d b : List ℕ) (s : CategorySet) (n : ℕ) (w : b ≡ written d 0 (bitmap_bytes s)) (h : length d ≡ 24) (t : n ≡ length (trimmed b)) where
  bitmap : b ≡ bitmap_bytes s
  bitmap = w ∙ bitmap-whole d s h

  whole : length b ≡ 24
  whole = ap length bitmap ∙ bitmap-length s

  few : n ≤ 24
  few = trimmed_fits b (bitmap_bytes s) n 24 bitmap t (bitmap-length s)

  long : n ≡ length (take (n - 0) b)
  long = omega (arith, length-take (n - 0) b, few, whole)

pub overflow_add-text : goal.overflow_add-text
overflow_add-text c = record { fits = omega (arith, few _ _ _ _ c.write_bitmap.ensures refl c.trimmed_length-n.ensures) }

pub overflow_cast-text : goal.overflow_cast-text
overflow_cast-text c = record { fits = omega (arith, few _ _ _ _ c.write_bitmap.ensures refl c.trimmed_length-n.ensures) }

pub overflow_add-text-2 : goal.overflow_add-text-2
overflow_add-text-2 c = record { fits = omega (arith, few _ _ _ _ c.write_bitmap.ensures refl c.trimmed_length-n.ensures) }

pub overflow_cast-text-2 : goal.overflow_cast-text-2
overflow_cast-text-2 c = record { fits = omega (arith, few _ _ _ _ c.write_bitmap.ensures refl c.trimmed_length-n.ensures) }

pub slice_bounds-copy_at-end-2 : goal.slice_bounds-copy_at-end-2
slice_bounds-copy_at-end-2 c =
    omega (arith, few _ _ _ _ c.write_bitmap.ensures refl c.trimmed_length-n.ensures, whole _ _ _ _ c.write_bitmap.ensures refl c.trimmed_length-n.ensures)

pub returns-clause-value : goal.returns-clause-value
unfolding option_of
returns-clause-value c =
    let b = c.write_bitmap.new.out in
    let n = c.trimmed_length-n.result in
    let text = option_front c.copy_at.new.dst _ (take (n - 0) b) (bitmap_bytes c.args.set) n c.args.level refl (front-trimmed b (bitmap_bytes c.args.set) n (bitmap _ _ _ _ c.write_bitmap.ensures refl c.trimmed_length-n.ensures) c.trimmed_length-n.ensures) (long _ _ _ _ c.write_bitmap.ensures refl c.trimmed_length-n.ensures) c.copy_at.ensures in
    c.put.ensures.value ∙ ap (λ (x : List ℕ). put_answer x c.args.out.now) text

pub returns-clause-out_after : goal.returns-clause-out_after
unfolding option_of
returns-clause-out_after c =
    let b = c.write_bitmap.new.out in
    let n = c.trimmed_length-n.result in
    let text = option_front c.copy_at.new.dst _ (take (n - 0) b) (bitmap_bytes c.args.set) n c.args.level refl (front-trimmed b (bitmap_bytes c.args.set) n (bitmap _ _ _ _ c.write_bitmap.ensures refl c.trimmed_length-n.ensures) c.trimmed_length-n.ensures) (long _ _ _ _ c.write_bitmap.ensures refl c.trimmed_length-n.ensures) c.copy_at.ensures in
    c.put.ensures.out_after ∙ ap (λ (x : List ℕ). put_out x c.args.out.now) text
