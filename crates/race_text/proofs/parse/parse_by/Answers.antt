-- What the reader by the grammar says of the bytes that it was fed at once.
use Rattle.std.proofs.{Common.{◌≡◌, ◌≢◌, [], Some, sym, ◌∙◌}, lemmas.Option.none-some}
use Rattle.std.proofs.lemmas.Result.{IfOk-weaker, IfErr-weaker}
use Rattle.race_text.specs.declared.cause.{TextCause.TextCause, TextFault.TextFault}
use Rattle.race_text.specs.{Lines.{first_fault, IsLineOf, IsNoneBefore}, Owed.HidesNone}
use Rattle.race_text.{specs.Fed.{IsFed, IsTold, ended_fault}, proofs.FedLemmas.match_err}
use Rattle.race_text.proofs.parse.parse_by.Goals as goal

module _ (g : _) (c : goal.After-drop-fed-in_err-feed g) where
  told : IsTold g.G.Grammar.causes c.args.bytes.now c.in_err-feed.field-0.0
  told = c.in_err-feed.ensures.err g.G.Grammar.at_start [] c.new-fed.ensures.stands

pub returns-in_err-feed-clause-fault : goal.returns-in_err-feed-clause-fault
returns-in_err-feed-clause-fault g c =
    match_err _ (λ (f : TextFault). f.cause ≢ TextCause.OutOfMemory → first_fault g.G.Grammar.causes c.args.bytes.now ≡ Some f)
    c.from_residual.result c.in_err-feed.field-0.0 c.from_residual.ensures.1 (told g c).whole

pub returns-in_err-feed-clause-memory : goal.returns-in_err-feed-clause-memory
returns-in_err-feed-clause-memory g c =
    match_err _ (λ (f : TextFault). IsNoneBefore f.line (first_fault g.G.Grammar.causes c.args.bytes.now))
    c.from_residual.result c.in_err-feed.field-0.0 c.from_residual.ensures.1 (told g c).none_before

pub returns-in_err-feed-clause-owed : goal.returns-in_err-feed-clause-owed
returns-in_err-feed-clause-owed g c =
    match_err _ (λ (f : TextFault). HidesNone f (ended_fault g.G.Grammar.causes c.args.bytes.now))
    c.from_residual.result c.in_err-feed.field-0.0 c.from_residual.ensures.1
    (c.in_err-feed.ensures.owed c.new-fed.ensures.fine c.new-fed.ensures.none g.G.Grammar.at_start [] c.new-fed.ensures.stands)

pub returns-in_err-feed-clause-line : goal.returns-in_err-feed-clause-line
returns-in_err-feed-clause-line g c =
    match_err _ (λ (f : TextFault). IsLineOf c.args.bytes.now f.line)
    c.from_residual.result c.in_err-feed.field-0.0 c.from_residual.ensures.1 (told g c).line

module _ (g : _) (c : goal.After-finish g) where
  stands : IsFed g.G.Grammar.causes (g.G.Grammar.stands_for g.G.Grammar.at_start) c.feed.new.self c.args.bytes.now
  stands = c.in_ok-feed.ensures.goes_on g.G.Grammar.at_start [] c.new-fed.ensures.stands

pub returns-clause-text : goal.returns-clause-text
returns-clause-text g c = IfOk-weaker c.finish.result _ _ (λ whole each. each g.G.Grammar.at_start c.args.bytes.now (stands g c)) c.finish.ensures.text

pub returns-clause-fault : goal.returns-clause-fault
returns-clause-fault g c = IfErr-weaker c.finish.result _ _ (λ told each. each g.G.Grammar.at_start c.args.bytes.now (stands g c)) c.finish.ensures.fault

pub returns-clause-memory : goal.returns-clause-memory
returns-clause-memory g c = IfErr-weaker c.finish.result _ _ (λ told each. each g.G.Grammar.at_start c.args.bytes.now (stands g c)) c.finish.ensures.memory

pub returns-clause-owed : goal.returns-clause-owed
returns-clause-owed g c =
    IfErr-weaker c.finish.result _ (λ (f : TextFault). HidesNone f (ended_fault g.G.Grammar.causes c.args.bytes.now))
    (λ _ _ f is _. absurd (none-some f (sym (c.in_ok-feed.ensures.ok g.G.Grammar.at_start [] c.new-fed.ensures.stands) ∙ is))) c.finish.ensures.line

pub returns-clause-line : goal.returns-clause-line
returns-clause-line g c = IfErr-weaker c.finish.result _ _ (λ told each. each g.G.Grammar.at_start c.args.bytes.now (stands g c)) c.finish.ensures.line
