-- The test of two asks holds where they are the same, and there alone.
use Rattle.std.proofs.Common.{◌≡◌, ◌==◌, ℕ, Option, Some, None, Decides, refl, sym, ap}
use Rattle.std.{proofs.{Common.true≢false, lemmas.Bool.Decides.{Decides-eqb, Decides-and}}, specs.{Bool.beq, Cmp.booleans_Decides}}
use Rattle.race_records.specs.Cases.{same_chan}
use Rattle.race_requests.specs.{declared.request.Ask.Ask, Offers.{same_offers, same_offers-Decides}}
use Rattle.race_script.specs.Course.{same_ask}

same_chan-Decides : (a b : Option ℕ) → Decides (same_chan a b) (a ≡ b)
same_chan-Decides None None = (λ _. refl, λ _. refl)
same_chan-Decides (Some c) (Some d) = (λ e. ap Some ((Decides-eqb c d).0 e), λ e. (Decides-eqb c d).1 cc)
same_chan-Decides _ _ = (λ e. absurd (true≢false (sym e)), λ e. cc)

pub same_ask-Decides : (a b : Ask) → Decides (same_ask a b) (a ≡ b)
same_ask-Decides (Ask.Go g) (Ask.Go h) = (λ e. ap Ask.Go ((Decides-eqb g h).0 e), λ e. (Decides-eqb g h).1 cc)
same_ask-Decides Ask.Exit Ask.Exit = (λ _. refl, λ _. refl)
same_ask-Decides (Ask.Read x) (Ask.Read y) = (λ e. ap Ask.Read ((Decides-eqb x y).0 e), λ e. (Decides-eqb x y).1 cc)
same_ask-Decides (Ask.Write x v) (Ask.Write y w) =
    let each = Decides-and (x == y) (v == w) (Decides-eqb x y) (Decides-eqb v w) in (λ e i. Ask.Write ((each.0 e).0 i) ((each.0 e).1 i), λ e. each.1 (cc, cc))
same_ask-Decides (Ask.Send c v) (Ask.Send d w) =
    let each = Decides-and (same_chan c d) (v == w) (same_chan-Decides c d) (Decides-eqb v w) in
    (λ e i. Ask.Send ((each.0 e).0 i) ((each.0 e).1 i), λ e. each.1 (cc, cc))
same_ask-Decides (Ask.Recv c) (Ask.Recv d) = (λ e. ap Ask.Recv ((same_chan-Decides c d).0 e), λ e. (same_chan-Decides c d).1 cc)
same_ask-Decides (Ask.Close c) (Ask.Close d) = (λ e. ap Ask.Close ((same_chan-Decides c d).0 e), λ e. (same_chan-Decides c d).1 cc)
same_ask-Decides (Ask.Select offers a) (Ask.Select others b) =
    let each = Decides-and (same_offers offers others) (beq a b) (same_offers-Decides offers others) (booleans_Decides a b) in
    (λ e i. Ask.Select ((each.0 e).0 i) ((each.0 e).1 i), λ e. each.1 (cc, cc))
same_ask-Decides (Ask.Lock l) (Ask.Lock m) = (λ e. ap Ask.Lock ((Decides-eqb l m).0 e), λ e. (Decides-eqb l m).1 cc)
same_ask-Decides (Ask.Unlock l) (Ask.Unlock m) = (λ e. ap Ask.Unlock ((Decides-eqb l m).0 e), λ e. (Decides-eqb l m).1 cc)
same_ask-Decides (Ask.RLock l) (Ask.RLock m) = (λ e. ap Ask.RLock ((Decides-eqb l m).0 e), λ e. (Decides-eqb l m).1 cc)
same_ask-Decides (Ask.RUnlock l) (Ask.RUnlock m) = (λ e. ap Ask.RUnlock ((Decides-eqb l m).0 e), λ e. (Decides-eqb l m).1 cc)
same_ask-Decides (Ask.TryLock l) (Ask.TryLock m) = (λ e. ap Ask.TryLock ((Decides-eqb l m).0 e), λ e. (Decides-eqb l m).1 cc)
same_ask-Decides (Ask.TryRLock l) (Ask.TryRLock m) = (λ e. ap Ask.TryRLock ((Decides-eqb l m).0 e), λ e. (Decides-eqb l m).1 cc)
same_ask-Decides (Ask.Do o) (Ask.Do p) = (λ e. ap Ask.Do ((Decides-eqb o p).0 e), λ e. (Decides-eqb o p).1 cc)
same_ask-Decides (Ask.EndDo o) (Ask.EndDo p) = (λ e. ap Ask.EndDo ((Decides-eqb o p).0 e), λ e. (Decides-eqb o p).1 cc)
same_ask-Decides _ _ = (λ e. absurd (true≢false (sym e)), λ e. cc)
