-- What is seen of the reader is what it was fed.
use Rattle.std.proofs.{Common.{ℕ, List, ◌++◌, refl, sym, ap, subst, ◌∙◌}, lemmas.Result.{IfOk-weaker, IfErr-weaker}}
use Rattle.race_text.specs.{Fault.trace_causes, Reader.{lines_read, StandsFor as Stands}}
use Rattle.race_text.{specs.Fed.{LinesState, StandsFor, IsFed}, proofs.FedLemmas.{fed_of, stands_of}}
use Rattle.race_text.proofs.line_reader.LineReader.feed.Goals as goal

module _ (g : _) (c : goal.After-feed g) where
  fed_to : (fed : List ℕ) → StandsFor trace_causes c.args.self.now fed → IsFed trace_causes Stands c.self.inside.fed fed
  fed_to fed S =
      let reader = c.self.inside.fed.lines.reader in
      fed_of trace_causes Stands c.self.inside.fed (lines_read reader.has_header reader.decls reader.trace) (λ fine. ((c.self.invariant fine).0, refl)) fed
      (subst (λ (k : LinesState). StandsFor trace_causes k fed) (sym c.self.view_is) S)

pub invariant_of-self : goal.invariant_of-self
invariant_of-self g c = λ fine.
    let reader = c.self.inside.fed.lines.reader in
    let between = c.feed.ensures.ready tt (λ was. record {
      some = record { lines = lines_read reader.has_header reader.decls reader.trace; stands = ((c.self.invariant was).0, refl) };
      unended = (c.self.invariant was).1;
    }) fine in
    (between.some.stands.0, between.unended)

pub returns-clause-goes_on : goal.returns-clause-goes_on
returns-clause-goes_on g c = λ fed S.
    let reader = c.feed.new.self.lines.reader in
    stands_of trace_causes Stands c.feed.new.self (lines_read reader.has_header reader.decls reader.trace) (λ lines these. these.1)
    (fed ++ c.args.piece.now) (c.feed.ensures.goes_on tt fed (fed_to g c fed S))

pub returns-clause-ok : goal.returns-clause-ok
returns-clause-ok g c = IfOk-weaker c.feed.result _ _ (λ _ each fed S. each tt fed (fed_to g c fed S)) c.feed.ensures.ok

pub returns-clause-fault : goal.returns-clause-fault
returns-clause-fault g c = IfErr-weaker c.feed.result _ _ (λ told each fed S. (each tt fed (fed_to g c fed S)).ended) c.feed.ensures.err

pub returns-clause-memory : goal.returns-clause-memory
returns-clause-memory g c = IfErr-weaker c.feed.result _ _ (λ told each fed S. (each tt fed (fed_to g c fed S)).none_ended_before) c.feed.ensures.err

pub returns-clause-owed : goal.returns-clause-owed
returns-clause-owed g c =
    IfErr-weaker c.feed.result _ _
    (λ told owes between fed S.
    owes (ap (λ (k : LinesState). k.fault) c.self.view_is ∙ between.fine) (ap (λ (k : LinesState). k.part) c.self.view_is ∙ between.none)
    tt fed (fed_to g c fed S)) c.feed.ensures.owed

pub returns-clause-line : goal.returns-clause-line
returns-clause-line g c = IfErr-weaker c.feed.result _ _ (λ told each fed S. (each tt fed (fed_to g c fed S)).line) c.feed.ensures.err

pub returns-clause-repeated : goal.returns-clause-repeated
returns-clause-repeated g c = λ told is. c.feed.ensures.repeated told (ap (λ (k : LinesState). k.fault) c.self.view_is ∙ is)
