use Rattle.std.proofs.Common.{◌≡◌, Some, Ok, Err, length, sym, ap, subst, ◌∙◌, arith, MatchResult}
use Rattle.race_text.specs.declared.{form.Word.Word, cause.TextCause.TextCause}
use Rattle.race_text.specs.{Fault.{seen_so_far, word_cause as text_cause}, Owed.owed, Words.parts_left}
use Rattle.race_text.specs.Declaring.{declaration_cause, with_declaration_in}
use Rattle.race_records.specs.{Declarations.DeclsState, Refusal.{Refuses, AllowsUnless}}
use Rattle.race_script.specs.{Program.bodies_of, Reader.{ReadState, draft_read}}
use Rattle.race_script.proofs.ReadLemmas.{declares_cause, declared_answered}
use Rattle.race_script.proofs.reader.Reader.take_declaration.Goals.{in-Ok, in-Err}
use Rattle.race_script.proofs.reader.Reader.take_declaration.Goals as goal

pub returns-then-begun-gt0 : goal.returns-then-begun-gt0
returns-then-begun-gt0 g c = record {
  taken =
      let s = c.args.self.now in
      let words = parts_left 32 c.args.rest in
      let made = c.word_cause.ensures in
      let told = c.unwrap.ensures in
      sym (ap owed (declares_cause s c.requires.read c.args.line.now c.args.keyword words c.requires.words
      ∙ (λ k. text_cause (seen_so_far (ap (λ (x : ReadState). x.decls.declarations) (sym c.self.view_is) k) (sym c.begun-begun.ensures k))
      (Some (Word.Declares c.args.keyword)) words)
      ∙ sym made ∙ told));
}

pub returns : goal.returns
returns g c =
    let s = c.args.self.now in
    let few = c.if-begun-gt0.false in
    let begun = c.begun-begun.ensures in
    let none : length (bodies_of (draft_read s)) ≡ 0 = omega (arith, few, begun) in
    let e = c.read_declaration.ensures in
    let decls : c.self.inside.decls ≡ s.decls = ap (λ (x : ReadState). x.decls) c.self.view_is in
    record {
      taken = declared_answered s c.requires.read c.args.line.now c.args.keyword (parts_left 32 c.args.rest) c.requires.words none
          c.read_declaration.result _
          (subst (λ (x : DeclsState). Refuses (declaration_cause x.declarations c.args.line.now) c.read_declaration.result) decls e.refused)
          (subst (λ (x : DeclsState). AllowsUnless (declaration_cause x.declarations c.args.line.now) c.read_declaration.result TextCause.OutOfMemory)
          decls e.allowed)
          e.ok (λ h. e.added h ∙ ap (λ (x : DeclsState). with_declaration_in x c.args.line.now) decls)
          (ap (λ (x : ReadState). x.has_header) c.self.view_is ∙ c.requires.header)
          (ap (λ (x : ReadState). x.ended) c.self.view_is) (ap (λ (x : ReadState). x.unended) c.self.view_is)
          c.match-read_declaration.result
          (elim c.match-read_declaration.branch [
            | in-Ok w ↦ subst (λ r. MatchResult r (λ _. c.match-read_declaration.result ≡ Ok tt) (λ told. c.match-read_declaration.result ≡ Err told))
                (sym w.in-Ok.is) w.result-is
            | in-Err w ↦ subst (λ r. MatchResult r (λ _. c.match-read_declaration.result ≡ Ok tt) (λ told. c.match-read_declaration.result ≡ Err told))
                (sym w.in-Err.is) w.result-is
          ]);
    }
