use Rattle.std.proofs.{Common.{◌≡◌, ◌∙◌, List, ℕ, codes, get_or, None, refl, sym, ap, arith}, lemmas.Option.same_Some}
use Rattle.race_requests.specs.declared.request.Ask.{Ask}
use Rattle.race_script.specs.Program.{Instruction}
use Rattle.race_script.proofs.laws.places_count.Goals as goal

pub returns : goal.returns
returns c = record {
  same = (record { ask = Ask.Exit; place = codes "a" }, refl, refl, (0, None, refl));
  other = λ (i, at, place, can).
      let here : codes "a" ≡ i.place = ap (λ (x : Instruction). x.place) (same_Some _ i at) in
      let clash : 98 ≡ 97 = ap (λ (l : List ℕ). get_or l 0 0) (same_Some _ i.place place ∙ sym here) in
      absurd (omega (arith, clash));
}
