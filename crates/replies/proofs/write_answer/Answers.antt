-- `replies::write_answer`: the word, the number and the newline, one behind the other. Assumes nothing.
use Rattle.std.proofs.Common.{arith}
use Rattle.replies.specs.Replies.{line_room}
use Rattle.replies.proofs.Laws.{put_next, put-said, answer-said}
use Rattle.replies.proofs.write_answer.Goals as goal

pub returns : goal.returns
returns c =
    let s = c.from-shown in
    let both = put_next 20 c.write_word-word.ensures c.write_field.ensures (omega (arith, c.requires)) (omega arith) in
    put-said line_room both (answer-said c.args.answer s.result s.ensures) (omega arith)
