use Rattle.std.{proofs.Common.{IsNone, if◌then◌else◌, sym, subst, refl, ◌∙◌, ◌++◌, ◌∷◌, []}, specs.Str.bytes_eq}
use Rattle.race_records.{specs.Declarations.{IsWellFormed, is_known}, proofs.PlaceLemmas.known_is_allowed}
use Rattle.race_records.proofs.TextLemmas.{list_any-found, list_any-absent}
use Rattle.race_records.proofs.declarations.Decls.known_place.Goals as goal

pub returns-in-Some-clause-allowed : goal.returns-in-Some-clause-allowed
returns-in-Some-clause-allowed g c =
    let text = c.args.text.now in
    let known = list_any-found (bytes_eq text) c.self.inside.places c.in-Some.index (sym c.index_of.ensures ∙ c.in-Some.is) in
    known_is_allowed c.args.self.now text (subst IsWellFormed c.self.view_is c.self.invariant.well_formed)
    ((λ i. is_known (sym c.self.view_is i).places text) ∙ known)

pub returns-in-Some-clause-same : goal.returns-in-Some-clause-same
returns-in-Some-clause-same g c =
    let text = c.args.text.now in
    let known = list_any-found (bytes_eq text) c.self.inside.places c.in-Some.index (sym c.index_of.ensures ∙ c.in-Some.is) in
    let decls = c.args.self.now in
    λ i. record {
      version = decls.version;
      declarations = decls.declarations;
      places = if ((λ j. is_known (sym c.self.view_is j).places text) ∙ known) i then decls.places else decls.places ++ text ∷ [];
    }

pub returns-in-None-clause-absent : goal.returns-in-None-clause-absent
returns-in-None-clause-absent g c =
    let text = c.args.text.now in
    (λ i. is_known (sym c.self.view_is i).places text)
    ∙ list_any-absent (bytes_eq text) c.self.inside.places (subst IsNone (sym (sym c.index_of.ensures ∙ c.in-None.is)) refl)
