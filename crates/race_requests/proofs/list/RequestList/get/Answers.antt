use Rattle.std.proofs.{Common.{◌<◌, ◌∙◌, List, Some, length, slice_get, sym, ap, subst, arith}, lemmas.List.length-map}
use Rattle.std.proofs.lemmas.Option.{slice_get-get_or}
use Rattle.race_requests.specs.declared.{list.Brief.Brief, request.Offer.Offer}
use Rattle.race_requests.specs.List.{RequestListState, request_of, IsWithin}
use Rattle.race_requests.proofs.ListLemmas.{within_at, request_at}
use Rattle.race_requests.proofs.list.RequestList.get.Goals as goal

pub request_of-requires : goal.request_of-requires
request_of-requires g c =
    let len = ap (λ (l : RequestListState). length l.items) c.self.view_is in
    let count = length-map c.self.inside.briefs.items (request_of c.self.inside.selects.items) in
    let within : c.args.index < length c.self.inside.briefs.items = omega (arith, len, count, c.requires) in
    let at = slice_get-get_or c.self.inside.briefs.items c.args.index c.index.result.now within ∙ ap (λ (b : Brief). Some b) (sym c.index.ensures) in
    subst (λ n. IsWithin n c.index.result.now.ask c.index.result.now.value) (ap (λ (os : List (List Offer)). length os) (sym c.as_slice.ensures.value))
    (within_at (length c.self.inside.selects.items) c.self.inside.briefs.items c.args.index c.index.result.now c.self.invariant at)

pub returns : goal.returns
returns g c =
    let selects = c.self.inside.selects.items in
    let briefs = c.self.inside.briefs.items in
    let len = ap (λ (l : RequestListState). length l.items) c.self.view_is in
    let count = length-map briefs (request_of selects) in
    let within : c.args.index < length briefs = omega (arith, len, count, c.requires) in
    let at = slice_get-get_or briefs c.args.index c.index.result.now within ∙ ap (λ (b : Brief). Some b) (sym c.index.ensures) in
    ap (λ (l : RequestListState). slice_get l.items c.args.index) (sym c.self.view_is)
    ∙ request_at selects briefs c.args.index c.index.result.now at
    ∙ ap (λ (os : List (List Offer)). Some (request_of os c.index.result.now)) (sym c.as_slice.ensures.value)
    ∙ (λ i. Some (sym c.request_of.ensures i))
