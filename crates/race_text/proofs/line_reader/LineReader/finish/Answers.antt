-- The trace that was read is the one whose text was fed.
use Rattle.std.proofs.{Common.{ℕ, List, refl, sym, ap, subst, ◌∙◌}, lemmas.Result.{IfOk-weaker, IfErr-weaker}}
use Rattle.race_text.specs.{Fault.trace_causes, Reader.{lines_read, StandsFor as Stands}}
use Rattle.race_text.{specs.Fed.{LinesState, StandsFor, IsFed}, proofs.TextFine.text_is_accepted}
use Rattle.race_text.proofs.{TextLaws.equal_texts, FedLemmas.fed_of}
use Rattle.race_text.proofs.line_reader.LineReader.finish.Goals as goal

module _ (g : _) (c : goal.After-finish g) where
  fed_to : (fed : List ℕ) → StandsFor trace_causes c.args.self fed → IsFed trace_causes Stands c.self.inside.fed fed
  fed_to fed S =
      let reader = c.self.inside.fed.lines.reader in
      fed_of trace_causes Stands c.self.inside.fed (lines_read reader.has_header reader.decls reader.trace) (λ fine. ((c.self.invariant fine).0, refl)) fed
      (subst (λ (k : LinesState). StandsFor trace_causes k fed) (sym c.self.view_is) S)

pub returns : goal.returns
returns g c = record {
  text = IfOk-weaker c.finish.result _ _ (λ trace each fed S. each tt fed (fed_to g c fed S)) c.finish.ensures.text;
  only = IfOk-weaker c.finish.result _ _
      (λ trace each fed S u is.
      let has = each tt fed (fed_to g c fed S) in
      equal_texts u trace is.has_text has.has_text (sym is.printed ∙ has.printed)) c.finish.ensures.text;
  accepted = IfErr-weaker c.finish.result _ _ (λ told each fed S. text_is_accepted fed told (each tt fed (fed_to g c fed S))) c.finish.ensures.fault;
  fault = IfErr-weaker c.finish.result _ _ (λ told each fed S. each tt fed (fed_to g c fed S)) c.finish.ensures.fault;
  memory = IfErr-weaker c.finish.result _ _ (λ told each fed S. each tt fed (fed_to g c fed S)) c.finish.ensures.memory;
  line = IfErr-weaker c.finish.result _ _ (λ told each fed S. each tt fed (fed_to g c fed S)) c.finish.ensures.line;
  repeated = λ told is. c.finish.ensures.repeated told (ap (λ (k : LinesState). k.fault) c.self.view_is ∙ is);
}
