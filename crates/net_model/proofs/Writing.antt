-- Words of memories keep an order.
use Rattle.std.proofs.Common.{◌≡◌, ℕ, ◌/◌, Bool, true, false, ◌&&◌, List, [], ◌∷◌, ◌++◌, inl, inr, refl, sym, subst}
use Rattle.std.specs.Prelude.{flat_map, nat_le, if◌then◌else◌, slice_index_or, ◌-◌}
use Rattle.rtl_bits.specs.declared.bit.Bit.{Bit}
use Rattle.rtl_bits.specs.declared.bit.Bit.TheVariants.{S0, S1, X, Z, M, Dash}
use Rattle.rtl_bits.specs.Knowledge.{Placewise, all_known}
use Rattle.rtl_bits.specs.Numbers.{number_of, low_bit_of}
use Rattle.cell_gate.specs.Control.{pick_of}
use Rattle.rtl_ir.specs.Flat.Driver.{PortPoints}
use Rattle.rtl_ir.specs.Flat.Reads.{port_list}
use Rattle.net_model.specs.Valuation.{Valuation}
use Rattle.net_model.specs.Words.{address_is, hit_of, followed_by, after_ports, fetched_of}
use Rattle.net_model.proofs.Orders.{Kept}
use Rattle.net_model.proofs.Reading.{PointsOn, on_left, on_right, word_on, at_kept}

module _ (order : Bit → Bit → Type 0) (k : Kept order) where
  pub pick_kept : (c c' a a' b b' : Bit) → order c c' → order a a' → order b b' → order (pick_of c a b) (pick_of c' a' b')
  pick_kept c c' a a' b b' h i j = k.bits.mux b b' a a' c c' j i h

  address_kept : (as' bs : List Bit) (n : ℕ) → Placewise order as' bs → order (address_is as' n) (address_is bs n)
  address_kept [] [] n h = k.bits.self _
  address_kept (a ∷ as') (b ∷ bs) n h =
      k.bits.and _ _ _ _ (k.bits.not _ _ (k.bits.xor _ _ _ _ h.0 (k.bits.self (low_bit_of n)))) (address_kept as' bs (n / 2) h.1)
  address_kept [] (b ∷ bs) n h = absurd h
  address_kept (a ∷ as') [] n h = absurd h

  hit_kept : (v w : Valuation) (address : ℕ) (port : PortPoints) → PointsOn order k (port_list port) v w → order (hit_of v address port) (hit_of w address port)
  hit_kept v w address port h =
      k.bits.and _ _ _ _ (h port.enable (inl refl)) (address_kept _ _ address (word_on order k v w port.address (λ s i. h s (inr (inr i)))))

  followed_kept : (fs : List Bool) (hs gs : List Bit) (d e : Bit) → Placewise order hs gs → order d e → order (followed_by fs hs d) (followed_by fs gs e)
  followed_kept fs [] [] d e h i = i
  followed_kept [] (S0 ∷ hs) (g ∷ gs) d e h i =
      subst (λ z. order (followed_by [] hs d) (followed_by [] (z ∷ gs) e)) (sym (k.bits.known S0 g tt h.0)) (followed_kept [] hs gs d e h.1 i)
  followed_kept (f ∷ fs) (S0 ∷ hs) (g ∷ gs) d e h i =
      subst (λ z. order (followed_by fs hs d) (followed_by (f ∷ fs) (z ∷ gs) e)) (sym (k.bits.known S0 g tt h.0)) (followed_kept fs hs gs d e h.1 i)
  followed_kept [] (b ∷ hs) (g ∷ gs) d e h i = k.bits.bottom _
  followed_kept (false ∷ fs) (b ∷ hs) (g ∷ gs) d e h i = k.bits.bottom _
  followed_kept (true ∷ fs) (b ∷ hs) (g ∷ gs) d e h i =
      by g (followed_kept fs hs gs d e h.1 i)
    where
      by : (g : Bit) → order (followed_by fs hs d) (followed_by fs gs e) → order (followed_by fs hs d) (followed_by (true ∷ fs) (g ∷ gs) e)
      by S0 l = l
      by g l = l
  followed_kept fs [] (g ∷ gs) d e h i = absurd h
  followed_kept fs (b ∷ hs) [] d e h i = absurd h

  last_kept : (hs gs : List Bit) (a b : Bit) → Placewise order hs gs → order a b → Placewise order (hs ++ a ∷ []) (gs ++ b ∷ [])
  last_kept [] [] a b h i = (i, tt)
  last_kept (x ∷ hs) (y ∷ gs) a b h i = (h.0, last_kept hs gs a b h.1 i)
  last_kept [] (y ∷ gs) a b h i = absurd h
  last_kept (x ∷ hs) [] a b h i = absurd h

  pub ports_kept : (v w : Valuation) (address : ℕ) (ports : List PortPoints) (hs gs : List Bit) (a b : Bit) → Placewise order hs gs → PointsOn order k (flat_map port_list ports) v w → order a b → order (after_ports v address hs ports a) (after_ports w address gs ports b)
  ports_kept v w address [] hs gs a b h i j = j
  ports_kept v w address (port ∷ ports) hs gs a b h i j =
      let here = on_left order k v w (port_list port) (flat_map port_list ports) i in
      let hit = hit_kept v w address port here in
      ports_kept v w address ports _ _ _ _ (last_kept hs gs _ _ h hit) (on_right order k v w (port_list port) (flat_map port_list ports) i) (pick_kept _ _ _ _ _ _ hit (followed_kept port.follows hs gs _ _ h (here port.new (inr (inl refl)))) j)

  known_same : (as' bs : List Bit) → Placewise order as' bs → all_known as' ≡ true → bs ≡ as'
  known_same [] [] h e = refl
  known_same (S0 ∷ as') (b ∷ bs) h e =
      λ i. k.bits.known S0 b tt h.0 i ∷ known_same as' bs h.1 e i
  known_same (S1 ∷ as') (b ∷ bs) h e =
      λ i. k.bits.known S1 b tt h.0 i ∷ known_same as' bs h.1 e i
  known_same (X ∷ as') (b ∷ bs) h e = absurd (cc)
  known_same (Z ∷ as') (b ∷ bs) h e = absurd (cc)
  known_same (M ∷ as') (b ∷ bs) h e = absurd (cc)
  known_same (Dash ∷ as') (b ∷ bs) h e = absurd (cc)
  known_same [] (b ∷ bs) h e = absurd h
  known_same (a ∷ as') [] h e = absurd h

  choose_kept : (t : Bool) (a a' b b' : Bit) → order a a' → order b b' → order (if t then a else b) (if t then a' else b')
  choose_kept true a a' b b' h i = h
  choose_kept false a a' b b' h i = i

  pub fetched_kept : (as' bs : List Bit) (first : ℕ) (ws vs : List Bit) → Placewise order as' bs → Placewise order ws vs → order (fetched_of as' first ws) (fetched_of bs first vs)
  fetched_kept as' bs first ws vs h i =
      by (all_known as') refl
    where
      by : (t : Bool) → all_known as' ≡ t → order (fetched_of as' first ws) (fetched_of bs first vs)
      by true e =
          subst (λ z. order (fetched_of as' first ws) (fetched_of z first vs)) (sym (known_same as' bs h e)) (choose_kept (all_known as' && nat_le first (number_of as')) _ _ _ _ (at_kept order k ws vs i _ X) (k.bits.self X))
      by false e =
          subst (λ t. order (if t && nat_le first (number_of as') then slice_index_or ws (number_of as' - first) X else X) (fetched_of bs first vs)) (sym e) (k.bits.bottom _)
