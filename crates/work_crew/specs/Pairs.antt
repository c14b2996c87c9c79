-- Calls of a function at each place of two lists.
use Rattle.std.specs.Prelude.{◌≡◌, List, [], ◌∷◌, length}
use denote.Ref.{MutBor}
use denote.Param.Members.{Shared}

-- the relation holds at each place of the two lists
abbrev pub AllReady : {S T : Type 0} → (S → T → Type 0) → List S → List T → Type 0
AllReady ready [] ts = Unit {0}
AllReady ready (s ∷ ss) [] = Unit {0}
AllReady ready (s ∷ ss) (t ∷ ts) = ready s t × AllReady ready ss ts

-- the four lists are of one length, and the relation holds at each place of them
abbrev pub AllRan : {S T : Type 0} → (S → S → T → T → Type 0) → List S → List S → List T → List T → Type 0
AllRan ran [] [] [] [] = Unit {0}
AllRan ran (s ∷ ss) (w ∷ ws) (t ∷ ts) (u ∷ us) = ran s w t u × AllRan ran ss ws ts us
AllRan ran ss ws ts us = ⊥

module _ {F S T : Type 0} (g : Shared F (MutBor S × (MutBor T × Unit {0})) ((Unit {0}) × (MutBor S × (MutBor T × Unit {0})))) (f : F) where
  -- f may be called with a `&mut` to s and one to t
  abbrev pub AcceptsPair : S → T → Type 0
  AcceptsPair s t = (p : MutBor S) (q : MutBor T) → p.now ≡ s → q.now ≡ t → g.pre f (p, (q, tt))

  -- f may be called at each place of the two lists, which are of one length
  abbrev pub AcceptsPairs : List S → List T → Type 0
  AcceptsPairs ss ts = AllReady AcceptsPair ss ts × (length ss ≡ length ts)

  -- a call of f with a `&mut` to s and one to t may leave w and u there
  pub record ChangesPair (s w : S) (t u : T) : Type 0 where
    pub first : MutBor S
    pub first_is : first.now ≡ s
    pub second : MutBor T
    pub second_is : second.now ≡ t
    pub first_after : MutBor S
    pub second_after : MutBor T
    pub call : g.post f (first, (second, tt)) (tt, (first_after, (second_after, tt)))
    pub first_left : first_after.now ≡ w
    pub second_left : second_after.now ≡ u

  -- a call of f at each place of the lists may leave these there
  abbrev pub ChangesPairs : List S → List S → List T → List T → Type 0
  ChangesPairs ss ws ts us = AllRan ChangesPair ss ws ts us
