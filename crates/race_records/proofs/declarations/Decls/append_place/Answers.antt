use Rattle.std.{proofs.Common.{◌≡◌, ℕ, List, None, false, sym, subst, ◌∙◌}, specs.Str.bytes_eq}
use Rattle.race_records.specs.{Declarations.{DeclsState, IsWellFormed, is_known, place_fault}, DeclsHold.decls_state}
use Rattle.race_records.proofs.PlaceLemmas.{allowed_from_no_place_fault, place_well_formed}
use Rattle.race_records.proofs.TextLemmas.{position-absent, position_or_len-absent}
use Rattle.race_records.proofs.declarations.Decls.append_place.Goals as goal

pub push-requires : goal.push-requires
push-requires g c =
    let text = c.args.text.now in
    position-absent (bytes_eq text) c.self.inside.places ((λ i. is_known (c.self.view_is i).places text) ∙ c.requires.new)

pub returns-clause-number : goal.returns-clause-number
returns-clause-number g c =
    c.place_count-number.ensures ∙ sym (position_or_len-absent (bytes_eq c.args.text.now) c.args.self.now.places c.requires.new)

pub invariant_of-self-2 : goal.invariant_of-self-2
invariant_of-self-2 g c =
    let text = c.args.text.now in
    let decls = decls_state c.self.inside in
    let new = subst (λ (d : DeclsState). is_known d.places text ≡ false) (sym c.self.view_is) c.requires.new in
    let allowed = subst (λ (d : DeclsState). place_fault d.places text ≡ None) (sym c.self.view_is) c.requires.allowed in
    record {
      numbered = c.self.invariant.numbered;
      well_formed = subst (λ (places : List (List ℕ)). IsWellFormed (record { version = decls.version; declarations = decls.declarations; places = places }))
          (sym c.in_ok-push.ensures.ok) (place_well_formed decls text c.self.invariant.well_formed new
          (allowed_from_no_place_fault decls.places text new allowed));
    }
