use mathlib.Core.Path.{sym, ◌∙◌}
use Prim.Native.Nat.{◌<◌}
use lib.ListN.{length, drop_of_length-le}
use Rattle.reply.specs.Reading.{rest_after, after_lines}
use Rattle.reply.proofs.TextLaws.{line-goes-on, line-ends, lines-over}
use borrow.Author.Rules.{rules}
use Rattle.reply.proofs.lines_end.Goals as goal
use Rattle.reply.proofs.lines_end.Goals.{then-not-is+else-not-ends_line, else-not-is}

pub returns-then-not-ends_line : goal.returns-then-not-ends_line
returns-then-not-ends_line c =
    let l = c.loop-i in
    let text = c.args.text.now in
    let control = sym c.is.ensures ∙ c.if-not-is.true in
    let other = sym c.ends_line.ensures ∙ c.if-not-ends_line.true in
    (search rules, lines-over (after_lines text) text l.rest l.i l.ended l.invariant.2 (search rules) control other)

pub loop-i-preserved : goal.loop-i-preserved
loop-i-preserved c =
    let l = c.loop-i in
    let text = c.args.text.now in
    let whole = after_lines text in
    let here : l.i < length text = search rules in
    elim c.if-not-is.branch [
      | then-not-is+else-not-ends_line w ↦
          let control = sym c.is.ensures ∙ w.if-not-is.true in
          let end = sym w.ends_line.ensures ∙ w.if-not-ends_line.false in
          (search rules, search rules, rw w.rest-is (line-ends whole text l.rest l.i l.ended l.invariant.2 here control end))
      | else-not-is w ↦
          let character = sym c.is.ensures ∙ w.if-not-is.false in
          (search rules, search rules, rw w.rest-is (line-goes-on whole text l.rest l.i l.ended l.invariant.2 here character))
    ]

pub returns : goal.returns
unfolding rest_after
returns c = (search rules, sym (c.loop-i.invariant.2 ∙ rw (drop_of_length-le c.args.text.now c.loop-i-test.false)))
