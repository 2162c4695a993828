use mathlib.Core.Path.{◌≡◌, sym, ◌∙◌}
use Prim.Native.Nat.{◌<◌}
use native.Mathlib.Omega.{arith}
use lib.ListN.{length}
use Rattle.reply.proofs.SearchLaws.{shows-all, shows-end, shows_code, shows-next, shows_character}
use borrow.Author.Rules.{rules}
use Rattle.reply.proofs.remarks.find_lines.Goals as goal
use Rattle.reply.proofs.remarks.find_lines.Goals.{then-not-is+else-not-is_of_ending, else-not-is}

pub loop-i-init : goal.loop-i-init
loop-i-init c = (search rules, search rules, shows-all c.args.bytes.now)

pub returns-then-not-is_of_ending : goal.returns-then-not-is_of_ending
returns-then-not-is_of_ending c =
    let l = c.loop-i in
    let bytes = c.args.bytes.now in
    let control = sym c.is.ensures ∙ c.if-not-is.true in
    let other = sym c.is_of_ending.ensures ∙ c.if-not-is_of_ending.true in
    c.shown.ensures ∙ sym (l.invariant.2 ∙ shows_code l.search bytes l.i (search rules) (rw (control, other)))

pub loop-i-preserved : goal.loop-i-preserved
loop-i-preserved c =
    let l = c.loop-i in
    let bytes = c.args.bytes.now in
    let here : l.i < length bytes = search rules in
    elim c.if-not-is.branch [
      | then-not-is+else-not-is_of_ending w ↦
          let control = sym c.is.ensures ∙ w.if-not-is.true in
          let ending = sym w.is_of_ending.ensures ∙ w.if-not-is_of_ending.false in
          (search rules, rw w.search-is w.pass-search.ensures.begun, rw w.search-is (l.invariant.2 ∙ shows-next l.search bytes l.i w.pass-search.result here (rw (control, ending)) w.pass-search.ensures))
      | else-not-is w ↦
          let character = sym c.is.ensures ∙ w.if-not-is.false in
          (search rules, rw w.search-is (search rules), rw w.search-is (l.invariant.2 ∙ shows_character l.search bytes l.i l.invariant.1 here character))
    ]

pub returns : goal.returns
returns c =
    let l = c.loop-i in
    let bytes = c.args.bytes.now in
    let all : l.i ≡ length bytes = omega (arith, l.invariant.0, c.loop-i-test.false) in
    c.shown-2.ensures ∙ sym (l.invariant.2 ∙ shows-end l.search bytes l.i c.loop-i-test.false ∙ rw all)
