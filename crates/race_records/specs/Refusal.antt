-- How a call answers a fault: the one that its definition tells first, and otherwise want of memory alone.
use Rattle.std.specs.Prelude.{◌≡◌, Option, Some, None, Result, Err, IsOkUnless}

-- where there is a fault, the call is refused with it
abbrev pub Refuses : {T E : Type 0} → Option E → Result T E → Type 0
Refuses {T} {E} fault result = (f : E) → fault ≡ Some f → result ≡ Err f

-- where there is none, the call is not refused but for want of memory
abbrev pub AllowsUnless : {T E : Type 0} → Option E → Result T E → E → Type 0
AllowsUnless fault result memory = fault ≡ None → IsOkUnless result memory
