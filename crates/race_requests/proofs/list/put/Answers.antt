use Rattle.std.proofs.Common.{◌≡◌, ◌≤◌, ◌++◌, ◌∙◌, List, sym, ap, subst, length, length-append, map, arith}
use Rattle.race_requests.specs.{declared.{list.Brief.Brief, request.Offer.Offer}, List.{ask_of, request_of, offers_in}}
use Rattle.race_requests.{specs.List.AreWithin, proofs.ListLemmas.{requests_pushed, within_pushed}}
use Rattle.race_requests.proofs.list.put.Goals as goal

pub returns-clause-within : goal.returns-clause-within
returns-clause-within g c =
    let was = c.args.selects.now.items in
    let len = ap (λ (os : List (List Offer)). length os) c.put_brief-ask.ensures.selects ∙ length-append was (offers_in c.args.request.ask) in
    let le : length was ≤ length c.put_brief-ask.new.selects.items = omega (arith, len) in
    subst (AreWithin (length c.put_brief-ask.new.selects.items)) (sym {A = List Brief} c.push_reserved.ensures.items)
    (within_pushed (length was) (length c.put_brief-ask.new.selects.items) c.args.briefs.now.items _ le c.requires.within c.put_brief-ask.ensures.within)

pub returns-clause-requests : goal.returns-clause-requests
returns-clause-requests g c =
    let was = c.args.selects.now.items in
    let more = offers_in c.args.request.ask in
    let ask = c.put_brief-ask.result.0 in
    let value = c.put_brief-ask.result.1 in
    let brief : Brief = record { ask = ask; place = c.args.request.place; value = value } in
    let asked = ap (λ (os : List (List Offer)). ask_of os ask value) (sym {A = List (List Offer)} c.put_brief-ask.ensures.selects) ∙ c.put_brief-ask.ensures.ask in
    let made : request_of (was ++ more) brief ≡ c.args.request = λ i. record { ask = asked i; place = c.args.request.place } in
    (λ i. map (request_of (c.put_brief-ask.ensures.selects i)) (c.push_reserved.ensures.items i))
    ∙ requests_pushed was more c.args.briefs.now.items brief c.args.request c.requires.within made
