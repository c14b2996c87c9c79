-- A table of keys after a place was put.
use Rattle.std.proofs.Common.{◌≡◌, ℕ, Bool, true, false, cond, List, Some, refl, sym, ◌∙◌, subst}
use Rattle.std.specs.Cmp.Lexicographic.{nat_list_eq_equiv}
use Rattle.std.specs.Global.{Vec}
use Rattle.std.specs.HashMap as hash
use Rattle.std.specs.HashMap.{HashMap}
use Rattle.std.specs.Map.{AreApart, IsKeyTest, KeepsOthers, lookup}
use Rattle.std.specs.Str.{bytes_eq}
use Rattle.std.proofs.lemmas.Slice.Eq.{bytes_eq-Decides}

module _ {K : Type 0} (eq : K → K → Bool) (test : K → Bool) where
  others : {X : Type 0} (old new : List (K × X)) → KeepsOthers eq test old new → (other : K → Bool) → IsKeyTest eq other → AreApart test other → lookup other new ≡ lookup other old
  unfolding KeepsOthers
  others old new h = h

apart : (bs cs ks : List ℕ) → bytes_eq bs cs ≡ false → bytes_eq bs ks ≡ true → bytes_eq cs ks ≡ false
apart bs cs ks n y = nat_list_eq_equiv.symm cs ks ∙ sym (nat_list_eq_equiv.congr bs ks cs y) ∙ n

-- the key has the place, and other keys keep theirs
pub key_put : {S : Type 0} (bs : List ℕ) (m n : HashMap (Vec ℕ) ℕ S) (at : ℕ) → hash.UpdatesBy (λ (x y : Vec ℕ). bytes_eq x.items y.items) (λ (k : Vec ℕ). bytes_eq bs k.items) m n (Some at)
    → (cs : List ℕ) → hash.get_by (λ (k : Vec ℕ). bytes_eq cs k.items) n ≡ cond (bytes_eq bs cs) (Some at) (hash.get_by (λ (k : Vec ℕ). bytes_eq cs k.items) m)
key_put bs m n at h cs = by (bytes_eq bs cs) refl
  where
    by : (t : Bool) → bytes_eq bs cs ≡ t → hash.get_by (λ (k : Vec ℕ). bytes_eq cs k.items) n ≡ cond t (Some at) (hash.get_by (λ (k : Vec ℕ). bytes_eq cs k.items) m)
    by true e =
        let same : bs ≡ cs = (bytes_eq-Decides bs cs).0 e in
        subst (λ l. hash.get_by (λ (k : Vec ℕ). bytes_eq l k.items) n ≡ Some at) same h.1
    by false e = others (λ (x y : Vec ℕ). bytes_eq x.items y.items) (λ (k : Vec ℕ). bytes_eq bs k.items) m.entries n.entries h.3 (λ (k : Vec ℕ). bytes_eq cs k.items) (λ x y. nat_list_eq_equiv.congr cs x.items y.items) (λ k. apart bs cs k.items e)
