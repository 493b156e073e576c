-- What an answer says, by whether it is a refusal.
use Rattle.std.proofs.Common.{◌≡◌, ◌⊎◌, inl, inr, Option, Some, None, Result, Ok, Err, OnOk, OnErr, refl}
use Rattle.race_records.specs.Refusal.{Refuses}

-- what is answered with a value has no fault
allowed : {T E : Type 0} (fault : Option E) (x : T) → Refuses fault (Ok x) → fault ≡ None
allowed None x refused = refl
allowed {T} {E} (Some f) x refused = let wrong : ◌≡◌ {A = Result T E} (Ok x) (Err f) = refused f refl in absurd (cc)

pub either : {T E : Type 0} (fault : Option E) (r : Result T E) (P Q : Type 0) → Refuses fault r → OnOk r P → OnErr r Q → ((fault ≡ None) × P) ⊎ Q
either fault (Ok x) P Q refused p q = inl (allowed fault x refused, p)
either fault (Err e) P Q refused p q = inr q
