use Rattle.std.proofs.{Common.{not, [], ◌∷◌, sym, ap, ◌∙◌, arith}, Math.Seq.take-length}
use Rattle.std.{proofs.lemmas.List.Quantifiers.position-Some, specs.List.list_all}
use Rattle.race_records.specs.Name.{is_place_byte}
use Rattle.race_text.proofs.SeenLemmas.{whole_is_word, word_before_space, word_is_unseen}
use Rattle.race_text.proofs.cut.cut_word.Goals as goal

pub returns-in-None : goal.returns-in-None
returns-in-None c =
    let h = whole_is_word c.args.bytes.now (sym c.in-None.ensures) in
    let all = take-length c.args.bytes.now in
    (omega arith, h.1 ∙ ap (λ w. w ∷ []) (sym all), ap (list_all is_place_byte) all ∙ h.0)

pub returns-then-bytes-end-eq32 : goal.returns-then-bytes-end-eq32
returns-then-bytes-end-eq32 c =
    let h = word_before_space c.args.bytes.now c.in-Some.end (sym c.in-Some.ensures) c.if-bytes-end-eq32.true in
    let within = (position-Some (λ b. not (is_place_byte b)) c.args.bytes.now c.in-Some.end 0 (sym c.in-Some.ensures)).0 in
    (omega (arith, within), h.1, h.0)

pub returns-else-bytes-end-eq32 : goal.returns-else-bytes-end-eq32
returns-else-bytes-end-eq32 c = word_is_unseen c.args.bytes.now c.in-Some.end (sym c.in-Some.ensures) c.if-bytes-end-eq32.false
