-- A byte of the word that has it.
use Rattle.std.proofs.Common.{arith}
use Rattle.numbers.specs.declared.CategorySet.{CategorySet}
use Rattle.set_bytes.proofs.Laws.{first_byte, second-byte, third-byte}
use Rattle.set_bytes.proofs.byte_of.Goals as goal

pub returns-then-i-lt8 : goal.returns-then-i-lt8
returns-then-i-lt8 c =
    let s : CategorySet = record { first = c.args.first; second = c.args.second; third = c.args.third } in
    first_byte s (record { first = c.ranges.first.fits; second = c.ranges.second.fits; third = c.ranges.third.fits }) c.args.i (omega arith)

pub returns-then-i-lt16 : goal.returns-then-i-lt16
returns-then-i-lt16 c =
    let s : CategorySet = record { first = c.args.first; second = c.args.second; third = c.args.third } in
    second-byte s (record { first = c.ranges.first.fits; second = c.ranges.second.fits; third = c.ranges.third.fits }) c.args.i (omega arith) (omega arith)

pub returns : goal.returns
returns c =
    let s : CategorySet = record { first = c.args.first; second = c.args.second; third = c.args.third } in
    third-byte s (record { first = c.ranges.first.fits; second = c.ranges.second.fits; third = c.ranges.third.fits }) c.args.i (omega arith) (omega arith)
