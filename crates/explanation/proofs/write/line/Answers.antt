-- `write::line` meets its contract. Assumes nothing.
use mathlib.Core.List.{append_assoc}
use Rattle.explanation.specs.Line.{numbers_text, rest_text, line_of}
use Rattle.explanation.proofs.Writing.{byte-some}
use Rattle.explanation.proofs.write.line.Goals as goal

pub returns : goal.returns
unfolding line_of numbers_text rest_text
returns c =
    rw (
      c.push-4.ensures.appended,
      c.push-3.ensures.appended,
      c.remark.ensures.text,
      c.push_byte-2.ensures.appended,
      c.then_some-2.ensures,
      c.push_byte.ensures.appended,
      c.then_some.ensures,
      c.push_number-3.ensures.appended,
      c.push-2.ensures.appended,
      c.push_number-2.ensures.appended,
      c.push.ensures.appended,
      c.push_number.ensures.appended,
      c.new-line.ensures,
      byte-some c.args.fault.has_byte c.args.fault.byte,
      byte-some c.args.fault.has_wanted c.args.fault.wanted,
    )
    (simp append_assoc)
