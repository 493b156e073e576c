use Rattle.std.proofs.{Common.{◌≡◌, ◌&&◌, true, sym, ap, ◌∙◌}, lemmas.Bool.Decides.same_from_decides}
use Rattle.race_records.specs.Declarations.{DeclsState}
use Rattle.race_records.specs.Equality.{same_version, same_declarations, same_declarations-Decides}
use Rattle.race_records.proofs.declarations.DeclsPartialEq.eq.Goals as goal

pub returns-clause-eq : goal.returns-clause-eq
returns-clause-eq g c =
    let ds = c.args.self.now.declarations in
    let es = c.args.other.now.declarations in
    let here = ap (λ (d : DeclsState). d.declarations) c.self.view_is in
    let there = ap (λ (d : DeclsState). d.declarations) c.other.view_is in
    let version : same_version c.args.self.now.version c.args.other.now.version ≡ true =
    (λ i. same_version (sym c.self.view_is i).version (sym c.other.view_is i).version) ∙ sym c.is_same.ensures ∙ c.if-not-is_same.false in
    let list : c.declare_alike.result ≡ same_declarations ds es =
    same_from_decides {P = ds ≡ es} c.declare_alike.result (same_declarations ds es)
    (λ t. sym here ∙ c.declare_alike.ensures.0 t ∙ there, λ e. c.declare_alike.ensures.1 (here ∙ e ∙ sym there))
    (same_declarations-Decides ds es) in
    λ i. sym version i && list i
