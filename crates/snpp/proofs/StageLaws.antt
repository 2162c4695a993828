-- A stage compared with another by `==` tells whether a message has been entered, and whether the session is over.
use mathlib.Core.Path.{◌≡◌, refl}
use denote.Enum.Bare.{sameb}
use Rattle.snpp.specs.Inner.{is_entered}
use Rattle.snpp.specs.State.{is_closed}
use Rattle.snpp.specs.contracts.state.Stage.{the_type}
use Rattle.snpp.specs.declared.state.Stage.{Stage}
use Rattle.snpp.specs.declared.state.Stage.TheVariants.{Open, Entered, Closed}

-- compared with that of a message
pub same_entered : (s : Stage) → sameb the_type s Entered ≡ is_entered s
same_entered Open = refl
same_entered Entered = refl
same_entered Closed = refl

-- compared with that of a session that is over
pub same_closed : (s : Stage) → sameb the_type s Closed ≡ is_closed s
same_closed Open = refl
same_closed Entered = refl
same_closed Closed = refl
