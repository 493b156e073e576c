use Rattle.std.{proofs.{Common.{◌∙◌, option_map, Some, sym, ap}, lemmas.Option.slice_get-get_or}, specs.Int.bit_at}
use Rattle.race_records.{specs.Cases.case_of, proofs.CaseLemmas.case_at}
use Rattle.race_records.proofs.cases.case_in.Goals as goal

pub returns : goal.returns
returns c =
    let numbers = c.args.numbers.now in
    let k = c.args.k in
    let bit = bit_at c.args.sends k in
    let nil = bit_at c.args.nils k in
    case_at numbers c.args.sends c.args.nils k ∙ ap (option_map (case_of bit nil)) (slice_get-get_or numbers k 0 c.requires.within)
    ∙ (λ i. Some (record { dir = sym c.dir_of.ensures i; chan = sym c.chan_of.ensures i }))
