-- `replies::write_report`: seven numbers one behind the other. Assumes nothing.
use Rattle.std.proofs.Common.{arith, [], ◌∷◌, ◌++◌}
use Rattle.replies.specs.Replies.{line_room, decimal}
use Rattle.replies.proofs.Laws.{put_next, put-said, seven-fields}
use Rattle.replies.proofs.write_report.Goals as goal

pub returns : goal.returns
returns c =
    let p1 = c.write_field-a.ensures in
    let p2 = c.write_field-b.ensures in
    let p3 = c.write_field-c.ensures in
    let p4 = c.write_field-d.ensures in
    let p5 = c.write_field-e.ensures in
    let p6 = c.write_field-f.ensures in
    let p7 = c.write_field.ensures in
    let r = c.args.report in
    let h = c.requires in
    put-said line_room (put_next 77 (put_next 66 (put_next 55 (put_next 44 (put_next 33 (put_next 22 p1 p2 (omega (arith, h)) (omega arith)) p3 (omega (arith, h)) (omega arith)) p4 (omega (arith, h)) (omega arith)) p5 (omega (arith, h)) (omega arith)) p6 (omega (arith, h)) (omega arith)) p7 (omega (arith, h)) (omega arith)) (seven-fields (decimal r.lines ++ (32 ∷ [])) (decimal r.accepted ++ (32 ∷ [])) (decimal r.skipped ++ (32 ∷ [])) (decimal r.refused ++ (32 ∷ [])) (decimal r.first ++ (32 ∷ [])) (decimal r.reason ++ (32 ∷ [])) (decimal r.bringup ++ (10 ∷ []))) (omega arith)
