-- The settings meet their contract: a number that is no way or no confirmation is refused, else they are those of the record.
use Rattle.line.proofs.OutcomeLaws.{handed-refusal}
use mathlib.Core.Path.{◌∙◌}
use borrow.Author.Tests.{lt-leb, le-leb, ltb-true, ltb-false}
use Rattle.abi.specs.Settings.{of_settings, of_way}
use Rattle.abi.proofs.AnswerLaws.{numbered, unnumbered}
use Rattle.abi.proofs.devices.SettingsTryFromDeviceSettings.try_from.Goals as goal

pub returns-in_err-way_of : goal.returns-in_err-way_of
unfolding of_settings of_way
returns-in_err-way_of c =
    let way = c.args.settings.way in
    let (out, nine) = unnumbered _ 9 _ _ c.in_err-way_of.ensures in
    handed-refusal _ _ c.from_residual.ensures.1 ∙ rw (nine, lt-leb way 1 (ltb-true 1 way out))

pub returns-in_err-confirmation_of : goal.returns-in_err-confirmation_of
unfolding of_settings of_way
returns-in_err-confirmation_of c =
    let way = c.args.settings.way in
    let confirmation = c.args.settings.confirmation in
    let (range, _) = numbered _ 9 _ _ c.in_ok-way_of.ensures in
    let (out, nine) = unnumbered _ 9 _ _ c.in_err-confirmation_of.ensures in
    handed-refusal _ _ c.from_residual-in_err-confirmation_of.ensures.1 ∙ rw (nine, le-leb way 1 (ltb-false 1 way range), lt-leb confirmation 1 (ltb-true 1 confirmation out))

pub returns : goal.returns
unfolding of_settings of_way
returns c =
    let way = c.args.settings.way in
    let confirmation = c.args.settings.confirmation in
    let (range, is) = numbered _ 9 _ _ c.in_ok-way_of.ensures in
    let (range', is') = numbered _ 9 _ _ c.in_ok-confirmation_of.ensures in
    rw (c.from.ensures, is, is', le-leb way 1 (ltb-false 1 way range), le-leb confirmation 1 (ltb-false 1 confirmation range'))
