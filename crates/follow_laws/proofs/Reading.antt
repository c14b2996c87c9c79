-- Points that are read alike are carried to drivers that give the same, as far as either is known.
use Rattle.std.proofs.Common.{ℕ, zero, suc, ◌/◌, Bool, true, false, List, [], ◌∷◌, ◌++◌, sym, subst}
use Rattle.rtl_bits.specs.declared.bit.Bit.{Bit}
use Rattle.rtl_bits.specs.Numbers.{low_bit_of}
use Rattle.rtl_bits.specs.declared.bit.Bit.TheVariants.{S0, X}
use Rattle.rtl_bits.specs.Knowledge.{Below, Placewise}
use Rattle.rtl_bits.proofs.Orders.{Below_refl}
use Rattle.cell_types.specs.declared.kind.CellKind.{CellKind}
use Rattle.cell_types.specs.declared.kind.CellKind.TheVariants as Cell
use Rattle.cell_gate.specs.Control.{active_of, was_of}
use Rattle.cell_types.specs.declared.level.Level.{Level}
use Rattle.cell_types.specs.declared.level.Level.TheVariants.{High, Low}
use Rattle.cell_types.specs.declared.shape.Shape.{Shape}
use Rattle.cell_word.specs.Values.{InputsBelow}
use Rattle.cell_gate.specs.Storage.{PinsBelow}
use Rattle.rtl_ir.specs.Flat.Driver.{PortPoints, Remembered, StorePoints, Stored}
use Rattle.rtl_ir.specs.Flat.Place.{Place}
use Rattle.rtl_ir.specs.Flat.Point.{Point}
use Rattle.net_model.specs.Run.{Time, Start, Step}
use Rattle.net_model.specs.Valuation.{Valuation, read, read_all, read_words}
use Rattle.net_model.specs.Value.{edge_at, pins_of, value_of, worked_of}
use Rattle.net_model.proofs.Orders.{below}
use Rattle.net_model.specs.Words.{address_is, after_ports, followed_by, hit_of}
use Rattle.net_model.proofs.Reading.{at_kept}
use Rattle.net_model.proofs.Writing.{fetched_kept, pick_kept}
use Rattle.follow_laws.specs.Alike.{AlikeBefore, DriveAlike, InPairs, ReadAlike}
use Rattle.follow_laws.proofs.Carrying.{Carries, PortBy, StoresBy}
use Rattle.follow_laws.proofs.Following.{Alike_refl}
use Rattle.follow_laws.proofs.Pairs.{pairs_map, pairs_self, pairs_turned}

module _ (v : Valuation) where
  -- the first point has no more than the second
  abbrev Lower : Point → Point → Type 0
  Lower a b = Below (read v a) (read v b)

  word_lower : (low high : List Point) → InPairs Lower low high → Placewise Below (read_all v low) (read_all v high)
  word_lower [] [] h = tt
  word_lower (a ∷ low) (b ∷ high) h = (h.0, word_lower low high h.1)
  word_lower [] (b ∷ high) h = absurd h
  word_lower (a ∷ low) [] h = absurd h

  words_lower : (low high : List (List Point)) → InPairs (InPairs Lower) low high → InputsBelow Below (read_words v low) (read_words v high)
  words_lower [] [] h at = tt
  words_lower (a ∷ low) (b ∷ high) h zero = word_lower a b h.0
  words_lower (a ∷ low) (b ∷ high) h (suc at) = words_lower low high h.1 at
  words_lower [] (b ∷ high) h at = absurd h
  words_lower (a ∷ low) [] h at = absurd h

  pins_lower : (a b : StorePoints) (own : Place) → StoresBy Lower a b → PinsBelow Below (pins_of v a own) (pins_of v b own)
  pins_lower a b own h = record {
    clk = h.clk;
    en = h.en;
    arst = h.arst;
    srst = h.srst;
    aload = h.aload;
    ad = h.ad;
    set = h.set;
    clr = h.clr;
    d = h.d;
    q = Below_refl (v own);
  }

-- a combinational cell gives no less where no input has less
worked_lower : (kind : CellKind) (shape : Shape) (at : ℕ) (low high : List (List Bit)) → InputsBelow Below low high → Below (worked_of kind shape low at) (worked_of kind shape high at)
worked_lower (Cell.Gate gate) shape at low high h =
    below.gates gate _ _ _ _ _ _ (at_kept Below below _ _ (h 0) 0 X) (at_kept Below below _ _ (h 1) 0 X) (at_kept Below below _ _ (h 2) 0 X)
worked_lower kind shape at low high h = at_kept Below below _ _ (below.words shape low high h) at X

-- what storage bits read in another order
stores_map : (P R : Point → Point → Type 0) → ((a b : Point) → P a b → R a b) → (a b : StorePoints) → StoresBy P a b → StoresBy R a b
stores_map P R f a b h = record {
  clk = f a.clk b.clk h.clk;
  en = f a.en b.en h.en;
  arst = f a.arst b.arst h.arst;
  srst = f a.srst b.srst h.srst;
  aload = f a.aload b.aload h.aload;
  ad = f a.ad b.ad h.ad;
  set = f a.set b.set h.set;
  clr = f a.clr b.clr h.clr;
  d = f a.d b.d h.d;
}

stores_turned : (P R : Point → Point → Type 0) → ((a b : Point) → P a b → R b a) → (a b : StorePoints) → StoresBy P a b → StoresBy R b a
stores_turned P R f a b h = stores_map (λ y x. P x y) R (λ y x k. f x y k) b a (record {
  clk = h.clk;
  en = h.en;
  arst = h.arst;
  srst = h.srst;
  aload = h.aload;
  ad = h.ad;
  set = h.set;
  clr = h.clr;
  d = h.d;
})

-- what a bit of a word sees of write ports in another order
port_map : (P R : Point → Point → Type 0) → ((a b : Point) → P a b → R a b) → (a b : PortPoints) → PortBy P a b → PortBy R a b
port_map P R f a b h = record {
  address = pairs_map P R f a.address b.address h.address;
  enable = f a.enable b.enable h.enable;
  new = f a.new b.new h.new;
  follows = h.follows;
}

port_turned : (P R : Point → Point → Type 0) → ((a b : Point) → P a b → R b a) → (a b : PortPoints) → PortBy P a b → PortBy R b a
port_turned P R f a b h = record {
  address = pairs_turned P R f a.address b.address h.address;
  enable = f a.enable b.enable h.enable;
  new = f a.new b.new h.new;
  follows = sym h.follows;
}

-- addresses, data behind other ports, and edges are told no less
address_lower : (as' bs : List Bit) (n : ℕ) → Placewise Below as' bs → Below (address_is as' n) (address_is bs n)
address_lower [] [] n h = below.bits.self _
address_lower (a ∷ as') (b ∷ bs) n h =
    below.bits.and _ _ _ _ (below.bits.not _ _ (below.bits.xor _ _ _ _ h.0 (below.bits.self (low_bit_of n)))) (address_lower as' bs (n / 2) h.1)
address_lower [] (b ∷ bs) n h = absurd h
address_lower (a ∷ as') [] n h = absurd h

followed_lower : (fs : List Bool) (hs gs : List Bit) (d e : Bit) → Placewise Below hs gs → Below d e → Below (followed_by fs hs d) (followed_by fs gs e)
followed_lower fs [] [] d e h i = i
followed_lower [] (S0 ∷ hs) (g ∷ gs) d e h i =
    subst (λ z. Below (followed_by [] hs d) (followed_by [] (z ∷ gs) e)) (sym h.0) (followed_lower [] hs gs d e h.1 i)
followed_lower (f ∷ fs) (S0 ∷ hs) (g ∷ gs) d e h i =
    subst (λ z. Below (followed_by fs hs d) (followed_by (f ∷ fs) (z ∷ gs) e)) (sym h.0) (followed_lower fs hs gs d e h.1 i)
followed_lower [] (b ∷ hs) (g ∷ gs) d e h i = tt
followed_lower (false ∷ fs) (b ∷ hs) (g ∷ gs) d e h i = tt
followed_lower (true ∷ fs) (b ∷ hs) (g ∷ gs) d e h i = by g (followed_lower fs hs gs d e h.1 i)
  where
    by : (g : Bit) → Below (followed_by fs hs d) (followed_by fs gs e) → Below (followed_by fs hs d) (followed_by (true ∷ fs) (g ∷ gs) e)
    by S0 l = l
    by g l = l
followed_lower fs [] (g ∷ gs) d e h i = absurd h
followed_lower fs (b ∷ hs) [] d e h i = absurd h

last_lower : (hs gs : List Bit) (a b : Bit) → Placewise Below hs gs → Below a b → Placewise Below (hs ++ a ∷ []) (gs ++ b ∷ [])
last_lower [] [] a b h i = (i, tt)
last_lower (x ∷ hs) (y ∷ gs) a b h i = (h.0, last_lower hs gs a b h.1 i)
last_lower [] (y ∷ gs) a b h i = absurd h
last_lower (x ∷ hs) [] a b h i = absurd h

active_lower : (level : Level) (a b : Bit) → Below a b → Below (active_of level a) (active_of level b)
active_lower High a b h = below.bits.seen a b h
active_lower Low a b h = below.bits.not a b h

edge_lower : (level : Level) (first : Bool) (v w : Valuation) (a b : Point) → Lower v a b → Lower w a b → Below (edge_at v w first a level) (edge_at v w first b level)
edge_lower level first v w a b h i =
    below.bits.and _ _ _ _ (below.bits.not _ _ (active_lower level _ _ (by first))) (active_lower level _ _ i)
  where
    by : (first : Bool) → Below (was_of first (read v a)) (was_of first (read v b))
    by true = tt
    by false = h

-- a word is written no less where no port has less
module _ (v : Valuation) (address : ℕ) where
  hit_lower : (a b : PortPoints) → PortBy (Lower v) a b → Below (hit_of v address a) (hit_of v address b)
  hit_lower a b h =
      below.bits.and _ _ _ _ h.enable (address_lower _ _ address (word_lower v a.address b.address h.address))

  ports_lower : (as' bs : List PortPoints) (hs gs : List Bit) (x y : Bit) → InPairs (PortBy (Lower v)) as' bs → Placewise Below hs gs → Below x y → Below (after_ports v address hs as' x) (after_ports v address gs bs y)
  ports_lower [] [] hs gs x y h i j = j
  ports_lower (a ∷ as') (b ∷ bs) hs gs x y h i j =
      let hit = hit_lower a b h.0 in
      let new = followed_lower a.follows hs gs _ _ i h.0.new in
      ports_lower as' bs _ _ _ _ h.1 (last_lower hs gs _ _ i hit) (pick_kept Below below _ _ _ _ _ _ hit (subst (λ fs. Below (followed_by a.follows hs (read v a.new)) (followed_by fs gs (read v b.new))) h.0.follows new) j)
  ports_lower [] (b ∷ bs) hs gs x y h i j = absurd h
  ports_lower (a ∷ as') [] hs gs x y h i j = absurd h

-- in the step before, and now
abbrev BeforeLower : Time Place → Point → Point → Type 0
BeforeLower Start a b = Unit {0}
BeforeLower (Step v x manner) a b = Lower v a b

stored_lower : (t : Time Place) (w : Valuation) (start : Bit) (shape : Shape) (at : ℕ) (a b : StorePoints) (own : Place) → StoresBy (BeforeLower t) a b → StoresBy (Lower w) a b → Below (value_of (Stored start shape at a own) t w) (value_of (Stored start shape at b own) t w)
stored_lower Start w start shape at a b own h k = Below_refl start
stored_lower (Step v x manner) w start shape at a b own h k =
    below.storage shape at manner _ _ _ _ (pins_lower v a b own h) (pins_lower w a b own k)

remembered_lower : (t : Time Place) (w : Valuation) (start : Bit) (a b : Point) (level : Level) (address : ℕ) (low high : List PortPoints) (own : Place) → BeforeLower t a b → Lower w a b → InPairs (PortBy (BeforeLower t)) low high → Below (value_of (Remembered start a level address low own) t w) (value_of (Remembered start b level address high own) t w)
remembered_lower Start w start a b level address low high own h k l = Below_refl start
remembered_lower (Step v x manner) w start a b level address low high own h k l =
    pick_kept Below below _ _ _ _ _ _ (edge_lower level manner.first v w a b h k) (ports_lower v address low high [] [] (v own) (v own) l tt (Below_refl (v own))) (Below_refl (v own))

before_there : (t : Time Place) (a b : Point) → AlikeBefore t a b → BeforeLower t a b
before_there Start a b h = tt
before_there (Step v x manner) a b h = h.there

before_back : (t : Time Place) (a b : Point) → AlikeBefore t a b → BeforeLower t b a
before_back Start a b h = tt
before_back (Step v x manner) a b h = h.back

before_refl : (t : Time Place) (a : Point) → AlikeBefore t a a
before_refl Start a = tt
before_refl (Step v x manner) a = Alike_refl v a

module _ (t : Time Place) (w : Valuation) where
  abbrev words_there : (low high : List (List Point)) → InPairs (InPairs (ReadAlike t w)) low high → InPairs (InPairs (Lower w)) low high
  words_there low high h =
      pairs_map (InPairs (ReadAlike t w)) (InPairs (Lower w)) (λ x y k. pairs_map (ReadAlike t w) (Lower w) (λ a b r. r.now.there) x y k) low high h

  abbrev words_back : (low high : List (List Point)) → InPairs (InPairs (ReadAlike t w)) low high → InPairs (InPairs (Lower w)) high low
  words_back low high h =
      pairs_turned (InPairs (ReadAlike t w)) (InPairs (Lower w)) (λ x y k. pairs_turned (ReadAlike t w) (Lower w) (λ a b r. r.now.back) x y k) low high h

  pub carries : Carries (ReadAlike t w) (DriveAlike t w)
  carries = record {
    same_point = λ a. record { before = before_refl t a; now = Alike_refl w a };
    same_driver = λ d. record { there = Below_refl (value_of d t w); back = Below_refl (value_of d t w) };
    joined = λ a b h. record { there = below.passed (read w a) (read w b) h.now.there; back = below.passed (read w b) (read w a) h.now.back };
    worked = λ shape low high at h. record {
      there = worked_lower shape.kind shape at (read_words w low) (read_words w high) (words_lower w low high (words_there low high h));
      back = worked_lower shape.kind shape at (read_words w high) (read_words w low) (words_lower w high low (words_back low high h));
    };
    stored = λ start shape at a b own h. record {
      there = stored_lower t w start shape at a b own (stores_map (ReadAlike t w) (BeforeLower t) (λ x y r. before_there t x y r.before) a b h) (stores_map (ReadAlike t w) (Lower w) (λ x y r. r.now.there) a b h);
      back = stored_lower t w start shape at b a own (stores_turned (ReadAlike t w) (BeforeLower t) (λ x y r. before_back t x y r.before) a b h) (stores_turned (ReadAlike t w) (Lower w) (λ x y r. r.now.back) a b h);
    };
    remembered = λ start a b level address low high own h ports. record {
      there = remembered_lower t w start a b level address low high own (before_there t a b h.before) h.now.there (pairs_map (PortBy (ReadAlike t w)) (PortBy (BeforeLower t)) (λ x y r. port_map (ReadAlike t w) (BeforeLower t) (λ c d s. before_there t c d s.before) x y r) low high ports);
      back = remembered_lower t w start b a level address high low own (before_back t a b h.before) h.now.back (pairs_turned (PortBy (ReadAlike t w)) (PortBy (BeforeLower t)) (λ x y r. port_turned (ReadAlike t w) (BeforeLower t) (λ c d s. before_back t c d s.before) x y r) low high ports);
    };
    fetched = λ low high first words h. record {
      there = fetched_kept Below below _ _ first _ _ (word_lower w low high (pairs_map (ReadAlike t w) (Lower w) (λ a b r. r.now.there) low high h)) (word_lower w words words (pairs_self (Lower w) (λ a. Below_refl (read w a)) words));
      back = fetched_kept Below below _ _ first _ _ (word_lower w high low (pairs_turned (ReadAlike t w) (Lower w) (λ a b r. r.now.back) low high h)) (word_lower w words words (pairs_self (Lower w) (λ a. Below_refl (read w a)) words));
    };
  }
