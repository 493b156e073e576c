-- The first offer whose channel isn't declared is found.
use Rattle.std.proofs.Common.{◌≡◌, ◌<◌, ◌≤◌, ◌&&◌, ◌∙◌, nat_le, true, false, length, sym, ap, arith}
use Rattle.std.proofs.Math.Bool.{and-false}
use Rattle.std.proofs.lemmas.{Bool.Decides.nat_tests, List.{take_all, Folds.{list_all_at, list_all_more}}}
use Rattle.std.specs.List.{list_all}
use Rattle.race_records.specs.{declared.{cases.TheConstants.MAX_CASES, kind.Kind.Kind}, Declarations.count_of}
use Rattle.race_legal.proofs.Searches.{passes_at}
use Rattle.race_requests.specs.Possible.{offer_is_in_range}
use Rattle.race_requests.proofs.sound.are_channels.Goals as goal

pub returns-then-not-is_offered : goal.returns-then-not-is_offered
returns-then-not-is_offered g c =
    let p = offer_is_in_range (count_of Kind.Chan c.args.decls.now.declarations) in
    sym (and-false (nat_le (length c.args.offers.now) MAX_CASES))
    ∙ ap (λ b. nat_le (length c.args.offers.now) MAX_CASES && b)
    (sym (list_all_at p c.args.offers.now c.loop-k.k c.get.result (omega (arith, c.len-k-end.ensures.len, c.loop-k-test.true))
    (passes_at p c.args.offers.now c.loop-k.k c.get.result c.is_offered.result false c.get.ensures c.is_offered.ensures c.if-not-is_offered.true)))

pub loop-k-preserved : goal.loop-k-preserved
loop-k-preserved g c =
    let p = offer_is_in_range (count_of Kind.Chan c.args.decls.now.declarations) in
    let passes = passes_at p c.args.offers.now c.loop-k.k c.get.result c.is_offered.result true c.get.ensures c.is_offered.ensures c.if-not-is_offered.false in
    list_all_more p c.args.offers.now c.loop-k.k c.get.result (omega (arith, c.len-k-end.ensures.len, c.loop-k-test.true))
    ∙ (λ i. c.loop-k.invariant i && passes i)

pub returns : goal.returns
returns g c =
    let p = offer_is_in_range (count_of Kind.Chan c.args.decls.now.declarations) in
    let whole : length c.args.offers.now ≤ c.loop-k.k = omega (arith, c.len-k-end.ensures.len, c.loop-k-test.false) in
    let all : true ≡ list_all p c.args.offers.now = sym (ap (list_all p) (sym (take_all c.loop-k.k c.args.offers.now whole)) ∙ c.loop-k.invariant) in
    let few : true ≡ nat_le (length c.args.offers.now) MAX_CASES = grind (arith, nat_tests, c.len-k-end.ensures.len, c.len-k-end.ensures.few) in
    λ i. few i && all i
