-- The report from what is noted of a trace is the trace's.
use Rattle.std.proofs.Common.{◌≡◌, suc, Bool, List, [], ◌∷◌, ◌++◌, All, map, refl, sym, ap, ◌∙◌, arith, IsTrue}
use Rattle.std.{proofs.lemmas.List.length-map, specs.List.flat_map}
use Rattle.race_records.specs.{declared.event.Op.{Op, TheVariants.{Read, Write}}, Declarations.DeclsState}
use Rattle.race_records.specs.Events.{TraceState}
use Rattle.race_model.specs.Events.{is_access}
use Rattle.race_verdict.specs.declared.report.{ReportedAccess.ReportedAccess, ReportedRace.ReportedRace, Report.Report}
use Rattle.race_verdict.specs.{Accesses.is_write, Notes.{IsNoteOf, IsNotedRaceOf, IsNotedOf, race_noted, verdict_noted}}
use Rattle.race_text.specs.Text.{goroutine_name, place_text}
use Rattle.race_report.specs.Report.{access_word, access_text, clean_line, clean_text, race_line, races_line}
use Rattle.race_report.specs.{Report.{races_text, report}, Noted.{noted_word, access_noted, race_noted_line}}
use Rattle.race_report.specs.Noted.{races_noted_text, report_noted}
use Rattle.race_report.proofs.ReportLemmas.{access_text_is, race_line_is}

-- the word for an access
word_is : (o : Op) (write : Bool) → IsTrue (is_access o) → is_write o ≡ write → noted_word write ≡ access_word o
word_is (Read x v) write access is = ap noted_word (sym is)
word_is (Write x v) write access is = ap noted_word (sym is)
word_is _ write access is = cc

module _ (trace : TraceState) where
  access_is : (n : ReportedAccess) → IsNoteOf trace.events n → access_noted trace.decls n ≡ access_text trace n.at
  access_is n is =
      access_text_is trace n.at is.event (noted_word n.write) (goroutine_name trace.decls.declarations n.who) (place_text trace.decls.places n.place) is.stands
      (word_is is.event.op n.write is.access is.write) (ap (goroutine_name trace.decls.declarations) (sym is.who)) (ap (place_text trace.decls.places) (sym is.place))

  race_is : (r : ReportedRace) → IsNotedRaceOf trace.events r → race_noted_line trace.decls r ≡ race_line trace (race_noted r)
  race_is r is = race_line_is trace (race_noted r) _ _ _ refl (access_is r.first is.0) (access_is r.second is.1)

  lines_are : (races : List ReportedRace) → All (IsNotedRaceOf trace.events) races
      → flat_map (race_noted_line trace.decls) races ≡ flat_map (race_line trace) (map race_noted races)
  lines_are [] all = refl
  lines_are (r ∷ races) all =
      let first = race_is r (all 0 r (omega arith)) in
      let rest = lines_are races (λ k d less. all (suc k) d (omega (arith, less))) in
      λ i. first i ++ rest i

  -- so are those of a list of them, and their count
  races_are : (races : List ReportedRace) → All (IsNotedRaceOf trace.events) races → races_noted_text trace.decls races ≡ races_text trace (map race_noted races)
  races_are races all = λ i. lines_are races all i ++ races_line (sym (length-map races race_noted) i)

  -- so is the report
  pub report_is : {A : Type 0} (verdict : Report A) → IsNotedOf trace.events verdict → report trace (verdict_noted verdict) ≡ report_noted trace.decls verdict
  unfolding clean_line
  report_is (Report.Illegal illegal) noted = refl
  report_is (Report.Clean events accesses) noted = λ i. clean_text (sym noted.0 i) (sym noted.1 i)
  report_is (Report.Races races) noted = sym (races_are races.items noted)

  -- by the declarations, which are the trace's
  pub report_by : {A : Type 0} (decls : DeclsState) (verdict : Report A) → trace.decls ≡ decls → IsNotedOf trace.events verdict
      → report_noted decls verdict ≡ report trace (verdict_noted verdict)
  report_by decls verdict same noted = sym (report_is verdict noted ∙ ap (λ d. report_noted d verdict) same)
