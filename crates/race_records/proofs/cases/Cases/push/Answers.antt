use Rattle.std.proofs.Common.{◌≡◌, ◌≤◌, ◌+◌, ◌++◌, ◌∷◌, [], length, take, set, List, sym, ap, ◌∙◌, arith}
use Rattle.race_records.{specs.{declared.cases.Case.Case, Cases.cases_of}, proofs.CaseLemmas.counted_len}
use Rattle.race_records.proofs.CaseLemmas.{counted_push, shifted, shifted_below, kept_whole}
use Rattle.race_records.proofs.cases.Cases.push.Goals as goal

pub invariant_of-self : goal.invariant_of-self
invariant_of-self c =
    let count = c.self.inside.count in
    let len = counted_len c.self.inside.chans c.self.inside.sends c.self.inside.nils count c.self.told c.self.invariant.0 in
    let few : count ≤ 15 = omega (
      arith,
      len,
      ap (λ (cases : List Case). length cases) c.self.view_is,
      c.len.ensures.len,
      c.self.invariant.0,
      c.if-len-eq-MAX_CASES.false,
    ) in (
      omega (arith, few),
      shifted_below c.self.inside.sends count c.numbers_of-bit.result.0 few c.self.invariant.1 c.numbers_of-bit.ensures.bit,
      shifted_below c.self.inside.nils count c.numbers_of-bit.result.1 few c.self.invariant.2 c.numbers_of-bit.ensures.nil,
    )

pub returns-clause-pushed : goal.returns-clause-pushed
returns-clause-pushed c =
    let chans = c.self.inside.chans in
    let sends = c.self.inside.sends in
    let nils = c.self.inside.nils in
    let count = c.self.inside.count in
    let told = c.numbers_of-bit.ensures in
    let bit = c.numbers_of-bit.result.0 in
    let nil = c.numbers_of-bit.result.1 in
    let number = c.numbers_of-bit.result.2 in
    let len = counted_len chans sends nils count c.self.told c.self.invariant.0 in
    let counted : c.len-2.result ≡ count = c.len-2.ensures.len ∙ sym (ap (λ (cases : List Case). length cases) c.self.view_is) ∙ len in
    let few : count ≤ 15 = omega (
      arith,
      len,
      ap (λ (cases : List Case). length cases) c.self.view_is,
      c.len.ensures.len,
      c.self.invariant.0,
      c.if-len-eq-MAX_CASES.false,
    ) in
    (λ i. cases_of (take (count + 1) (set chans (counted i) number)) (sends + shifted count bit few told.bit i) (nils + shifted count nil few told.nil i))
    ∙ counted_push chans sends nils count number bit nil c.self.told (omega (arith, few)) c.self.invariant.1 told.bit c.self.invariant.2 told.nil
    ∙ (λ i. c.self.view_is i ++ told.case i ∷ [])

pub returns-clause-whole : goal.returns-clause-whole
returns-clause-whole c = λ low. returns-clause-pushed c ∙ ap (λ (case : Case). c.args.self.now ++ case ∷ []) (kept_whole c.args.case low)
