-- The record's size and both places, then what its labels and access bytes say.
use Rattle.std.proofs.Common.{◌+◌, ◌-◌, ◌≡◌, ◌≤◌, sym, ap, ◌∙◌, ℕ, length, take, drop, length-drop, arith}
use lib.Seq.{take_all}
use Rattle.fixed_load.specs.Records.{label_place, access_from}
use Rattle.fixed_load.proofs.Laws.{as_answered, wrong_size, no_subject, no_object, subject-short, object-short, from_places}
use Rattle.fixed_load.proofs.record_to_line.Goals as goal

pub returns-then-bytes-ne-RECORD_SIZE : goal.returns-then-bytes-ne-RECORD_SIZE
returns-then-bytes-ne-RECORD_SIZE c =
    let e = as_answered _ _ c.args.out.now (wrong_size c.args.bytes.now c.if-bytes-ne-RECORD_SIZE.true) in
    record { value = e.0; out_after = e.1 }

pub returns-in_default : goal.returns-in_default
returns-in_default c =
    let e = as_answered _ _ c.args.out.now (no_subject c.args.bytes.now c.if-bytes-ne-RECORD_SIZE.false (sym c.label_length.ensures ∙ c.in_default.is)) in
    record { value = e.0; out_after = e.1 }

pub returns-in_default-label_length : goal.returns-in_default-label_length
returns-in_default-label_length c =
    let e =
    as_answered _ _ c.args.out.now
    (no_object c.args.bytes.now c.if-bytes-ne-RECORD_SIZE.false c.in-Some.s (sym c.in-Some.ensures) (sym c.label_length-2.ensures ∙ c.in_default-label_length.is)) in
    record { value = e.0; out_after = e.1 }

pub slice_bounds-put_line-end : goal.slice_bounds-put_line-end
slice_bounds-put_line-end c =
    let s = subject-short c.args.bytes.now c.if-bytes-ne-RECORD_SIZE.false c.in-Some.s (sym c.in-Some.ensures) in
    let size = c.if-bytes-ne-RECORD_SIZE.false in
    omega (arith, s, size)

pub overflow_add-o : goal.overflow_add-o
overflow_add-o c =
    let o =
    object-short c.args.bytes.now c.if-bytes-ne-RECORD_SIZE.false c.in-Some.s (sym c.in-Some.ensures) c.in-Some-label_length.o (sym c.in-Some-label_length.ensures) in
    record { fits = omega (arith, o) }

pub slice_bounds-put_line-end-2 : goal.slice_bounds-put_line-end-2
slice_bounds-put_line-end-2 c =
    let o =
    object-short c.args.bytes.now c.if-bytes-ne-RECORD_SIZE.false c.in-Some.s (sym c.in-Some.ensures) c.in-Some-label_length.o (sym c.in-Some-label_length.ensures) in
    let size = c.if-bytes-ne-RECORD_SIZE.false in
    omega (arith, o, size)

pub returns : goal.returns
returns c =
    let r = c.args.bytes.now in
    let size = c.if-bytes-ne-RECORD_SIZE.false in
    let n = c.in-Some.s in
    let k = c.in-Some-label_length.o in
    let n-is : n - 0 ≡ n = omega arith in
    let k-is : label_place + k - label_place ≡ k = omega arith in
    let rest : length (drop access_from r) ≤ 5 = omega (arith, length-drop access_from r, size) in
    let f =
    from_places r size n (sym c.in-Some.ensures) k (sym c.in-Some-label_length.ensures) _ _ _ (ap (λ (j : ℕ). take j r) n-is)
    (ap (λ (j : ℕ). take j (drop label_place r)) k-is) (take_all 5 (drop access_from r) rest) in
    let e = as_answered _ _ c.args.out.now f in
    record { value = c.put_line.ensures.value ∙ e.0; out_after = c.put_line.ensures.out_after ∙ e.1 }
