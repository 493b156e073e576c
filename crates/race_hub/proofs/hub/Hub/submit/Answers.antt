use Rattle.std.proofs.Common.{◌≡◌, ◌∙◌, false, not, ap, sym, subst, Result, Ok, Err}
use Rattle.std.specs.Prelude.{IfOk, IfErr}
use Rattle.race_hub.specs.Submits.{is_stray}
use Rattle.race_hub.proofs.hub.Hub.submit.Goals as goal

-- what holds of either result
in_both : {X E P : Type 0} (F : X → Type 0) (G : E → Type 0) (r : Result X E) → IfOk r F → IfErr r G → ((x : X) → F x → P) → ((e : E) → G e → P) → P
in_both F G (Ok x) ok err f g = f x ok
in_both F G (Err e) ok err f g = g e err

pub put_back-requires-clause-back : goal.put_back-requires-clause-back
put_back-requires-clause-back g c =
    subst (λ h. is_stray h c.args.job ≡ false) (sym c.self.view_is) (ap not (sym c.is_back.ensures ∙ c.if-not-is_back.false))

pub invariant_of-self : goal.invariant_of-self
invariant_of-self g c = in_both _ _ c.put_back.result c.put_back.ensures.ok c.put_back.ensures.err (λ _ is. is.1.1) (λ _ is. is.2)
