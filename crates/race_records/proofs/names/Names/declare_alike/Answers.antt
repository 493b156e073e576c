use Rattle.std.proofs.{Common.{◌≡◌, length, refl, sym, ◌∙◌, arith}, lemmas.List.length-map}
use Rattle.race_records.{specs.Rows.{declaration_of, declarations_of}, proofs.ListLemmas.same_elements}
use Rattle.race_records.proofs.names.Names.declare_alike.Goals as goal

pub returns : goal.returns
returns g c =
    let here = length-map c.args.self.now declaration_of in
    let there = length-map c.args.other.now declaration_of in
    let same : length c.args.self.now ≡ length c.args.other.now = omega (arith, c.len.ensures, c.len-2.ensures, c.if-len.false) in (
      λ _. same_elements (declarations_of c.args.self.now) (declarations_of c.args.other.now) (here ∙ same ∙ sym there)
          (λ k within. c.loop-index.invariant k (omega (arith, within, here, c.len-index-end.ensures))),
      λ _. refl,
    )
