use Rattle.std.proofs.{lemmas.Grind.common_steps, Common.{◌≡◌, ◌++◌, ◌∷◌, [], length, set, List, true≢false, refl, sym}}
use Rattle.std.proofs.Common.{ap, ◌∙◌, arith}
use Rattle.race_requests.{specs.{declared.request.Offer.Offer, Offers.{offers_with, kept}}, proofs.OfferLemmas.below_if}
use Rattle.race_requests.proofs.OfferLemmas.{offers_len, offers_push, kept_offer, kept_whole_offer}
use Rattle.race_records.specs.Cases.{kept as kept_case}
use Rattle.race_requests.proofs.offers.Offers.push.Goals as goal

pub returns-in_default-clause-full : goal.returns-in_default-clause-full
returns-in_default-clause-full c =
    let len = offers_len c.self.inside.cases c.self.inside.values (omega (arith, c.self.invariant.0, c.self.invariant.1)) in
    (λ _. omega (arith, len, ap (λ (offers : List Offer). length offers) c.self.view_is, c.in_default.ensures.full.0 refl), λ _. refl)

pub bounds-self-inside-at : goal.bounds-self-inside-at
bounds-self-inside-at c =
    let len = offers_len c.self.inside.cases c.self.inside.values (omega (arith, c.self.invariant.0, c.self.invariant.1)) in
    let less = below_if (length c.self.inside.cases) 16 c.in-Ok.ensures.full.1 in
    omega (arith, len, ap (λ (offers : List Offer). length offers) c.self.view_is, c.len-at.ensures.len, less)

pub returns-clause-full : goal.returns-clause-full
returns-clause-full c =
    let len = offers_len c.self.inside.cases c.self.inside.values (omega (arith, c.self.invariant.0, c.self.invariant.1)) in (
      λ e. absurd (true≢false (sym e)),
      λ le. c.in-Ok.ensures.full.1 (omega (arith, len, ap (λ (offers : List Offer). length offers) c.self.view_is, le)),
    )

pub returns-clause-pushed : goal.returns-clause-pushed
returns-clause-pushed c =
    let cases = c.self.inside.cases in
    let values = c.self.inside.values in
    let len = offers_len cases values (omega (arith, c.self.invariant.0, c.self.invariant.1)) in
    let less = below_if (length cases) 16 c.in-Ok.ensures.full.1 in
    let at : c.len-at.result ≡ length cases = omega (arith, len, ap (λ (offers : List Offer). length offers) c.self.view_is, c.len-at.ensures.len) in
    (λ i. offers_with (c.in-Ok.ensures.pushed i) (set values (at i) c.parts_of-value.result.1))
    ∙ offers_push cases values (kept_case c.parts_of-value.result.0) c.parts_of-value.result.1 (omega (arith, less, c.self.invariant.1))
    ∙ (λ i. c.self.view_is i ++ kept_offer c.parts_of-value.result.0 c.parts_of-value.result.1 i ∷ [])
    ∙ ap (λ (o : Offer). c.args.self.now ++ kept o ∷ []) c.parts_of-value.ensures

pub returns-clause-whole : goal.returns-clause-whole
returns-clause-whole c = λ low. returns-clause-pushed c ∙ ap (λ (o : Offer). c.args.self.now ++ o ∷ []) (kept_whole_offer c.args.offer low)

pub invariant_of-self-2 : goal.invariant_of-self-2
invariant_of-self-2 c = grind (arith, common_steps) steps 1000000
