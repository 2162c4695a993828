-- `tyntolai_snpp_step` meets its contract: a record with no stage is refused, else the state that it is steps.
use Rattle.abi.specs.Gateways.{gateway_stepped}
use Rattle.abi.proofs.AnswerLaws.{numbered, unnumbered}
use Rattle.abi.proofs.GatewayLaws.{gateway_refused, gateway_steps}
use Rattle.abi.proofs.gateways.tyntolai_snpp_step.Goals as goal

pub returns-in_default : goal.returns-in_default
unfolding gateway_stepped
returns-in_default c =
    let (out, _) = unnumbered _ 9 _ _ c.in_default.ensures in
    rw out (gateway_refused _ _ c.from.ensures)

pub returns : goal.returns
unfolding gateway_stepped
returns c =
    let (stage, is) = numbered _ 9 _ _ c.in-Ok.ensures in
    rw stage
    (gateway_steps _ stage (rw is at c.step-stepped.ensures) c.from-2.ensures c.stage_number.ensures)
