use Rattle.std.proofs.Common.{◌≡◌, List, [], ◌∷◌, ◌++◌, length, refl, arith}
use Rattle.work_crew.specs.Pairs.{AllReady, AllRan}

module _ {S T : Type 0} where
  pub ran_both : (ran : S → S → T → T → Type 0) (ss ws rs vs : List S) (ts us xs ys : List T) → AllRan ran ss ws ts us → AllRan ran rs vs xs ys → AllRan ran (ss ++ rs) (ws ++ vs) (ts ++ xs) (us ++ ys)
  ran_both ran [] [] rs vs [] [] xs ys h k = k
  ran_both ran (s ∷ ss) (w ∷ ws) rs vs (t ∷ ts) (u ∷ us) xs ys h k = (h.0, ran_both ran ss ws rs vs ts us xs ys h.1 k)
  ran_both ran [] [] rs vs [] (u ∷ us) xs ys h k = absurd h
  ran_both ran [] [] rs vs (t ∷ ts) us xs ys h k = absurd h
  ran_both ran [] (w ∷ ws) rs vs ts us xs ys h k = absurd h
  ran_both ran (s ∷ ss) [] rs vs ts us xs ys h k = absurd h
  ran_both ran (s ∷ ss) (w ∷ ws) rs vs [] us xs ys h k = absurd h
  ran_both ran (s ∷ ss) (w ∷ ws) rs vs (t ∷ ts) [] xs ys h k = absurd h

  pub ready_front : (ready : S → T → Type 0) (ss rs : List S) (xs ys : List T) → length ss ≡ length xs → AllReady ready (ss ++ rs) (xs ++ ys) → AllReady ready ss xs
  ready_front ready [] rs xs ys e h = tt
  ready_front ready (s ∷ ss) rs [] ys e h = tt
  ready_front ready (s ∷ ss) rs (x ∷ xs) ys e h = (h.0, ready_front ready ss rs xs ys (omega arith) h.1)

  pub ready_back : (ready : S → T → Type 0) (ss rs : List S) (xs ys : List T) → length ss ≡ length xs → AllReady ready (ss ++ rs) (xs ++ ys) → AllReady ready rs ys
  ready_back ready [] rs [] ys e h = h
  ready_back ready [] rs (x ∷ xs) ys e h = absurd (omega arith)
  ready_back ready (s ∷ ss) rs [] ys e h = absurd (omega arith)
  ready_back ready (s ∷ ss) rs (x ∷ xs) ys e h = ready_back ready ss rs xs ys (omega arith) h.1

  pub ready_map : (P Q : S → T → Type 0) → ((s : S) (t : T) → P s t → Q s t) → (ss : List S) (ts : List T) → AllReady P ss ts → AllReady Q ss ts
  ready_map P Q f [] ts h = tt
  ready_map P Q f (s ∷ ss) [] h = tt
  ready_map P Q f (s ∷ ss) (t ∷ ts) h = (f s t h.0, ready_map P Q f ss ts h.1)

  pub ran_map : (P Q : S → S → T → T → Type 0) → ((s w : S) (t u : T) → P s w t u → Q s w t u) → (ss ws : List S) (ts us : List T) → AllRan P ss ws ts us → AllRan Q ss ws ts us
  ran_map P Q f [] [] [] [] h = tt
  ran_map P Q f (s ∷ ss) (w ∷ ws) (t ∷ ts) (u ∷ us) h = (f s w t u h.0, ran_map P Q f ss ws ts us h.1)
  ran_map P Q f [] [] [] (u ∷ us) h = absurd h
  ran_map P Q f [] [] (t ∷ ts) us h = absurd h
  ran_map P Q f [] (w ∷ ws) ts us h = absurd h
  ran_map P Q f (s ∷ ss) [] ts us h = absurd h
  ran_map P Q f (s ∷ ss) (w ∷ ws) [] us h = absurd h
  ran_map P Q f (s ∷ ss) (w ∷ ws) (t ∷ ts) [] h = absurd h

  pub ran_length : (ran : S → S → T → T → Type 0) (ss ws : List S) (ts us : List T) → AllRan ran ss ws ts us → length ws ≡ length ss
  ran_length ran [] [] [] [] h = refl
  ran_length ran (s ∷ ss) (w ∷ ws) (t ∷ ts) (u ∷ us) h = let e = ran_length ran ss ws ts us h.1 in omega arith
  ran_length ran [] [] [] (u ∷ us) h = absurd h
  ran_length ran [] [] (t ∷ ts) us h = absurd h
  ran_length ran [] (w ∷ ws) ts us h = absurd h
  ran_length ran (s ∷ ss) [] ts us h = absurd h
  ran_length ran (s ∷ ss) (w ∷ ws) [] us h = absurd h
  ran_length ran (s ∷ ss) (w ∷ ws) (t ∷ ts) [] h = absurd h
