-- Seats of which the first gives up values, and ages that grow.
use Rattle.std.proofs.Common.{◌≡◌, ℕ, zero, suc, ◌+◌, ◌<◌, ◌≤◌, List, [], ◌∷◌, ◌++◌, Bool, length, set, get_or, slice_get, take, Option, Some, None, refl, sym, ap, subst, ◌∙◌, arith}
use Rattle.std.proofs.lemmas.Option.{slice_get-get_or}
use Rattle.atomic_table.specs.Seated.{TableId}
use Rattle.result_cache.specs.declared.call.Call.{Call}
use Rattle.result_cache.specs.declared.shard.Forget.{Forget}
use Rattle.result_cache.specs.Meet.{HasMet, Share}
use Rattle.result_cache.specs.Seats.{AreSeatsOf, Seated, HasForgot}
use Rattle.result_cache.proofs.Idle.{forgot_keeps}
use Rattle.result_cache.proofs.Sharing.{share_met}
use Rattle.build_crew.specs.Forgetting.{GaveUp, HasForgotten}
use Rattle.build_crew.specs.Kept.{AreAllSeats}
use Rattle.build_crew.proofs.Forgetting.{forgotten}
use Rattle.script_core.specs.declared.built.Built.{Built}
use Rattle.desk_core.specs.Needed.{age_after, ages_after}
use Rattle.desk_core.specs.Results.{AreSeated}
use Rattle.desk_core.specs.Standing.{StandsFor}

-- a seat that was to give up the values of these keys so far
pub record GivesUp (cache : TableId) (keys : List (List ℕ)) (old new : Seated) : Type 0 where
  pub gave_up : GaveUp (λ (built : Built) text. StandsFor built text) keys old new
  pub cache_is : new.cache ≡ cache

pub gives_first : (cache : TableId) (s : Seated) → s.cache ≡ cache → GivesUp cache [] s s
gives_first cache s is = record { gave_up = refl; cache_is = is }

gave_more : (keys : List (List ℕ)) (key : List ℕ) (old mid new : Seated) (r : Forget Built) → GaveUp (λ (built : Built) text. StandsFor built text) keys old mid → HasForgot (λ (built : Built) text. StandsFor built text) mid new key r
    → GaveUp (λ (built : Built) text. StandsFor built text) (keys ++ key ∷ []) old new
gave_more [] key old mid new r same h = (new, r, subst (λ (s : Seated). HasForgot (λ (built : Built) text. StandsFor built text) s new key r) same h, refl)
gave_more (k ∷ keys) key old mid new r (next, answer, one, rest) h = (next, answer, one, gave_more keys key next mid new r rest h)

pub gives_more : (cache : TableId) (keys : List (List ℕ)) (key : List ℕ) (old mid new : Seated) (r : Forget Built) → GivesUp cache keys old mid → HasForgot (λ (built : Built) text. StandsFor built text) mid new key r
    → GivesUp cache (keys ++ key ∷ []) old new
gives_more cache keys key old mid new r h one = record {
  gave_up = gave_more keys key old mid new r h.gave_up one;
  cache_is = (forgot_keeps (λ (built : Built) text. StandsFor built text) mid new key r one).cache ∙ h.cache_is;
}

-- what the seats of a desk leave of which the first was to give up the values of these keys, once they met
pub given_up : (cache : TableId) (shards : ℕ) (gone : List (List ℕ)) (olds news : List Seated) (first mid : Seated) → 0 < shards → AreSeated cache shards olds → slice_get olds 0 ≡ Some first
    → GaveUp (λ (built : Built) text. StandsFor built text) gone first mid → ((i : ℕ) → i < shards → (log : List Call) × HasMet i log (set olds 0 mid) news) → HasForgotten cache shards gone olds news
given_up cache shards gone [] news first mid some h is gave met = absurd (let no : None ≡ Some first = is in cc)
given_up cache shards gone (s ∷ olds) news first mid some h is gave met =
    let e : s ≡ first = cc in
    forgotten Built (λ (built : Built) text. StandsFor built text) cache shards gone s mid olds news record {
      some = some;
      all = h.all;
      shared = h.shared;
      gave_up = subst (λ (f : Seated). GaveUp (λ (built : Built) text. StandsFor built text) gone f mid) (sym e) gave;
      met = met;
    }

-- they are all seats of the cache still
pub seated_still : (cache : TableId) (shards : ℕ) (gone : List (List ℕ)) (olds mids news : List Seated) → AreSeated cache shards olds → HasForgotten cache shards gone olds news → length news ≡ length olds
    → ((i : ℕ) → i < shards → (log : List Call) × HasMet i log mids news) → AreSeated cache shards news
seated_still cache shards gone olds mids news h f same met =
    let some = h.some in
    let few = h.few in
    record {
      some = omega (arith, same, some);
      few = omega (arith, same, few);
      all = subst (λ (n : ℕ). AreAllSeats cache n shards 0 news) (sym same) f.all;
      shared = share_met shards mids news met;
    }

-- ages of which the first so many are grown
abbrev pub grown_to : ℕ → List Bool → List (Option ℕ) → List (Option ℕ)
grown_to zero marks ages = ages
grown_to (suc n) [] ages = ages
grown_to (suc n) (mark ∷ marks) [] = []
grown_to (suc n) (mark ∷ marks) (age ∷ ages) = age_after mark age ∷ grown_to n marks ages

pub grown_many : (n : ℕ) (marks : List Bool) (ages : List (Option ℕ)) → length (grown_to n marks ages) ≡ length ages
grown_many zero marks ages = refl
grown_many (suc n) [] ages = refl
grown_many (suc n) (mark ∷ marks) [] = refl
grown_many (suc n) (mark ∷ marks) (age ∷ ages) = ap suc (grown_many n marks ages)

pub grown_all : (marks : List Bool) (ages : List (Option ℕ)) → length marks ≡ length ages → grown_to (length marks) marks ages ≡ ages_after marks ages
grown_all [] [] same = refl
grown_all [] (age ∷ ages) same = absurd (omega (arith, same))
grown_all (mark ∷ marks) [] same = absurd (omega (arith, same))
grown_all (mark ∷ marks) (age ∷ ages) same = ap (λ (l : List (Option ℕ)). age_after mark age ∷ l) (grown_all marks ages (omega (arith, same)))

pub grown_more : (n : ℕ) (marks : List Bool) (ages : List (Option ℕ)) (mark : Bool) (age : Option ℕ) → slice_get marks n ≡ Some mark → slice_get (grown_to n marks ages) n ≡ Some age
    → set (grown_to n marks ages) n (age_after mark age) ≡ grown_to (suc n) marks ages
grown_more n [] ages mark age is has = absurd (let no : None ≡ Some mark = is in cc)
grown_more zero (m ∷ marks) [] mark age is has = absurd (let no : None ≡ Some age = has in cc)
grown_more zero (m ∷ marks) (a ∷ ages) mark age is has =
    let e : m ≡ mark = cc in
    let f : a ≡ age = cc in
    ap (λ (b : Bool). age_after b age ∷ ages) (sym e) ∙ ap (λ (o : Option ℕ). age_after m o ∷ ages) (sym f)
grown_more (suc n) (m ∷ marks) [] mark age is has = absurd (let no : None ≡ Some age = has in cc)
grown_more (suc n) (m ∷ marks) (a ∷ ages) mark age is has = ap (λ (l : List (Option ℕ)). age_after m a ∷ l) (grown_more n marks ages mark age is has)

pub grown_at : (n : ℕ) (marks : List Bool) (ages now : List (Option ℕ)) (age grown : Option ℕ) (d : Bool) → n < length marks → length marks ≡ length ages → now ≡ grown_to n marks ages
    → age ≡ get_or now n age → grown ≡ age_after (get_or marks n d) age → set now n grown ≡ grown_to (n + 1) marks ages
grown_at n marks ages now age grown d within same is has are =
    let many = grown_many n marks ages in
    let there : slice_get (grown_to n marks ages) n ≡ Some age =
    slice_get-get_or (grown_to n marks ages) n age (omega (arith, within, same, many)) ∙ ap (λ (l : List (Option ℕ)). Some (get_or l n age)) (sym is) ∙ ap Some (sym has) in
    ap (λ (l : List (Option ℕ)). set l n grown) is ∙ ap (set (grown_to n marks ages) n) are
    ∙ grown_more n marks ages (get_or marks n d) age (slice_get-get_or marks n d within) there
    ∙ ap (λ (k : ℕ). grown_to k marks ages) (let next : suc n ≡ n + 1 = omega arith in next)

take_more : (n : ℕ) (keys : List (List ℕ)) (d : List ℕ) → n < length keys → take (suc n) keys ≡ take n keys ++ get_or keys n d ∷ []
take_more n [] d within = absurd (omega (arith, within))
take_more zero (k ∷ keys) d within = refl
take_more (suc n) (k ∷ keys) d within = ap (λ (l : List (List ℕ)). k ∷ l) (take_more n keys d (omega (arith, within)))

pub gives_at : (cache : TableId) (keys : List (List ℕ)) (n : ℕ) (d : List ℕ) (old mid new : Seated) (r : Forget Built) → n < length keys → GivesUp cache (take n keys) old mid
    → HasForgot (λ (built : Built) text. StandsFor built text) mid new (get_or keys n d) r → GivesUp cache (take (n + 1) keys) old new
gives_at cache keys n d old mid new r within h one =
    subst (λ (l : List (List ℕ)). GivesUp cache l old new) (sym (take_more n keys d within) ∙ ap (λ (k : ℕ). take k keys) (let next : suc n ≡ n + 1 = omega arith in next)) (gives_more cache (take n keys) (get_or keys n d) old mid new r h one)

-- the seat that gives up values stays one of the cache
pub gave_cache : (gone : List (List ℕ)) (old new : Seated) → GaveUp (λ (built : Built) text. StandsFor built text) gone old new → new.cache ≡ old.cache
gave_cache [] old new same = ap (λ (s : Seated). s.cache) same
gave_cache (key ∷ gone) old new (mid, r, one, rest) = gave_cache gone mid new rest ∙ (forgot_keeps (λ (built : Built) text. StandsFor built text) old mid key r one).cache

all_of : (cache : TableId) (callers shards k : ℕ) (seats : List Seated) → AreAllSeats cache callers shards k seats → AreSeatsOf cache seats
all_of cache callers shards k [] h = tt
all_of cache callers shards k (s ∷ seats) h = (h.0.0, all_of cache callers shards (k + 1) seats h.4)

-- all of the seats are of the cache
pub seats_of : (cache : TableId) (shards : ℕ) (gone : List (List ℕ)) (olds : List Seated) (first mid : Seated) → AreSeated cache shards olds → slice_get olds 0 ≡ Some first
    → GaveUp (λ (built : Built) text. StandsFor built text) gone first mid → AreSeatsOf cache (set olds 0 mid)
seats_of cache shards gone [] first mid h is gave = tt
seats_of cache shards gone (s ∷ olds) first mid h is gave =
    let all = all_of cache (length (s ∷ olds)) shards 0 (s ∷ olds) h.all in
    let e : s ≡ first = cc in
    (gave_cache gone first mid gave ∙ ap (λ (f : Seated). f.cache) (sym e) ∙ all.0, all.1)
