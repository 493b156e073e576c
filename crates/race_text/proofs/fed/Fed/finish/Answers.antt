-- The fault that was told, or that of the bytes that are left behind the lines.
use Rattle.std.{proofs.Common.{ℕ, List, ◌++◌, sym, ap, subst, ◌∙◌}, specs.List.flat_map}
use Rattle.race_text.{specs.{Text.ended, Fed.{IsFed, IsTold}}, proofs.FedLemmas.{told_of, taken_of, end_told}}
use Rattle.race_text.proofs.FedLemmas.{end_is_line, end_none_before}
use Rattle.race_text.proofs.fed.Fed.finish.Goals as goal

module _ (g : _) (c : goal.After-drop-reader g) where
  told : (k : g.G.Grammar.Known) (fed : List ℕ) → IsFed g.G.Grammar.causes (g.G.Grammar.stands_for k) c.args.self fed
      → IsTold g.G.Grammar.causes fed c.in-Some.fault
  told k fed S = told_of g.G.Grammar.causes (g.G.Grammar.stands_for k) c.args.self fed c.in-Some.fault c.in-Some.is S

pub returns-in-Some-clause-fault : goal.returns-in-Some-clause-fault
returns-in-Some-clause-fault g c = λ k fed S. (told g c k fed S).whole

pub returns-in-Some-clause-memory : goal.returns-in-Some-clause-memory
returns-in-Some-clause-memory g c = λ k fed S. (told g c k fed S).none_before

pub returns-in-Some-clause-line : goal.returns-in-Some-clause-line
returns-in-Some-clause-line g c = λ k fed S. (told g c k fed S).line

pub returns-in-Err-clause-fault : goal.returns-in-Err-clause-fault
returns-in-Err-clause-fault g c = λ k fed S other.
    let t = taken_of g.G.Grammar.causes (g.G.Grammar.stands_for k) c.args.self fed c.in-None.is S in
    end_told g.G.Grammar.causes fed _ c.args.self.lines.part.items t (record { line = c.line-line.result; cause = c.in-Err.cause })
    (c.line-line.ensures k t.lines t.stands) (c.requires.1 c.in-None.is).unended
    (ap (λ (left : List ℕ). g.G.Grammar.causes.end t.lines left) (sym c.as_slice.ensures.value) ∙ c.in-Err.ensures k other t.lines t.stands)

pub returns-in-Err-clause-memory : goal.returns-in-Err-clause-memory
returns-in-Err-clause-memory g c = λ k fed S.
    let t = taken_of g.G.Grammar.causes (g.G.Grammar.stands_for k) c.args.self fed c.in-None.is S in
    end_none_before g.G.Grammar.causes fed _ c.args.self.lines.part.items t (record { line = c.line-line.result; cause = c.in-Err.cause })
    (c.line-line.ensures k t.lines t.stands)

pub returns-in-Err-clause-line : goal.returns-in-Err-clause-line
returns-in-Err-clause-line g c = λ k fed S.
    let t = taken_of g.G.Grammar.causes (g.G.Grammar.stands_for k) c.args.self fed c.in-None.is S in
    end_is_line g.G.Grammar.causes fed _ c.args.self.lines.part.items t (record { line = c.line-line.result; cause = c.in-Err.cause })
    (c.line-line.ensures k t.lines t.stands)

pub returns-clause-text : goal.returns-clause-text
returns-clause-text g c = λ k fed S.
    let t = taken_of g.G.Grammar.causes (g.G.Grammar.stands_for k) c.args.self fed c.in-None.is S in
    let is = c.in-Ok.ensures k t.lines t.stands in
    subst (g.G.Grammar.is_text_of k c.in-Ok.whole)
    (ap (λ (left : List ℕ). flat_map ended t.lines ++ left) c.as_slice.ensures.value ∙ t.taken.bytes_are) is.text
