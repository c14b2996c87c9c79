-- Assigns in numbers, one more at the end.
use Rattle.std.proofs.Common.{◌≡◌, ℕ, zero, suc, ◌+◌, ◌<◌, ◌≤◌, Bool, true, false, if◌then◌else◌, List, [], ◌∷◌, ◌++◌, length, get_or, take, min, Option, Some, None, refl, sym, ◌∙◌, ap, subst, arith, append_assoc}
use Rattle.std.specs.Prelude.{nat_eq}
use Rattle.std.specs.Option.{option_map_or, option_or}
use Rattle.std.proofs.lemmas.List.{append-nil, length-take-le, map-append, take_more}
use Rattle.rtl_sig.specs.declared.sig.SigBit.{SigBit}
use Rattle.rtl_sig.specs.declared.sig.SigBit.TheVariants.{Fixed, Wire as OnWire}
use Rattle.rtl_sig.specs.declared.sig.WireBit.{WireBit}
use Rattle.rtl_ir.specs.declared.module.Link.{Link}
use Rattle.rtl_ir.specs.declared.wire.Wire.{Wire}
use Rattle.rtl_ir.specs.Assigns.{last_source}
use Rattle.rtl_ir.specs.Decisions.{Decision, Leaf, with_leaves}
use Rattle.rtl_ir.specs.Faults.TwoEdges.{SwitchTest}
use Rattle.rtl_ir.specs.Flat.Pick.{Pick, pick_of}
use Rattle.rtl_ir.specs.Flat.Place.{Path, Place}
use Rattle.rtl_ir.specs.Flat.Point.{points}
use Rattle.rtl_ir.specs.Follow.{all_joins, joins}
use Rattle.rtl_ir.specs.declared.follow.Join.{Join}
use Rattle.rtl_ir.specs.Signals.{same_bit}
use Rattle.flat_net.specs.declared.choices.Assign.{Assign}
use Rattle.flat_net.specs.declared.leaves.Source.{Source}
use Rattle.flat_net.specs.declared.net.Point.{Point}
use Rattle.flat_net.specs.Known.{Keeps}
use Rattle.flat_net.specs.Picks.{assigned_pick, source_of}
use Rattle.flat_net.specs.Points.{points_of}
use Rattle.flat_net.specs.Reads.{ArePoints}
use Rattle.flat_net.specs.Trees.{AreAssigns, AreLeaves, AreSignals, IsFound, IsSource, after_joins}
use Rattle.flat_net.proofs.TreeBits.{source_within}
use Rattle.flat_net.proofs.Reading.{AreSignals-kept, IsSource-kept, all_end, assigns-within}

-- signals

pub AreSignals-none : (ps : List Place) (p : Path) (wires : List Wire) → AreSignals ps p wires [] []
AreSignals-none ps p wires = record { are = refl; within = tt }

pub AreSignals-next : (ps qs : List Place) (p : Path) (wires : List Wire) (words new : List (List Point)) (signals : List (List SigBit)) (i : ℕ) (d : List SigBit) (word : List Point) → Keeps ps qs → i < length signals
    → AreSignals ps p wires words (take i signals) → ArePoints qs word (points p wires (get_or signals i d)) → new ≡ words ++ word ∷ [] → AreSignals qs p wires new (take (i + 1) signals)
AreSignals-next ps qs p wires words new signals i d word keeps lt h k put =
    let before = AreSignals-kept ps qs keeps p wires words (take i signals) h in
    rw (put, take_more signals i d lt) (record {
      are = map-append (points_of qs) words (word ∷ []) ∙ (λ j. before.are j ++ k.are j ∷ []) ∙ sym (map-append (points p wires) (take i signals) (get_or signals i d ∷ []));
      within = all_end _ words word before.within k.within;
    })

-- assigns

either : {A : Type 0} (x y z : Option A) → option_or (option_or x y) z ≡ option_or x (option_or y z)
either (Some a) y z = refl
either None y z = refl

last-append : (js ks : List Join) (b : WireBit) → last_source (js ++ ks) b ≡ option_or (last_source ks b) (last_source js b)
last-append [] ks b = by (last_source ks b)
  where
    by : (o : Option SigBit) → o ≡ option_or o None
    by (Some s) = refl
    by None = refl
last-append (j ∷ js) ks b =
    ap (λ o. option_or o (if same_bit j.bit b then Some j.source else None)) (last-append js ks b)
    ∙ either (last_source ks b) (last_source js b) (if same_bit j.bit b then Some j.source else None)

assigned-append : (leaf : Source → Pick) (at : ℕ) (xs ys : List Assign) (e : Pick) → assigned_pick leaf at (xs ++ ys) e ≡ assigned_pick leaf at ys (assigned_pick leaf at xs e)
assigned-append leaf at [] ys e = refl
assigned-append leaf at (x ∷ xs) ys e = assigned-append leaf at xs ys (if nat_eq x.at at then leaf (source_of x) else e)

-- one place more, of a bit that is there or is not
after-one : (js : List Join) (j : Join) (b : WireBit) (d : Decision) → after_joins (js ++ j ∷ []) b d ≡ (if same_bit j.bit b then Leaf j.source else after_joins js b d)
after-one js j b d = ap (λ o. option_map_or (λ s. Leaf s) o d) (last-append js (j ∷ []) b) ∙ by (same_bit j.bit b)
  where
    by : (t : Bool) → option_map_or (λ s. Leaf s) (option_or (option_or None (if t then Some j.source else None)) (last_source js b)) d ≡ (if t then Leaf j.source else after_joins js b d)
    by true = refl
    by false = refl

module _ (test : SwitchTest) (p : Path) (wires : List Wire) (bits : List WireBit) where
  -- what is so of the sources over more numbers is so of those over fewer
  pub AreLeaves-before : (ps qs : List Place) → Keeps ps qs → (leaf : Source → Pick) (f : SigBit → Decision) → AreLeaves qs test p wires bits leaf f → AreLeaves ps test p wires bits leaf f
  AreLeaves-before ps qs keeps leaf f h = record { are = λ source s is. h.are source s (IsSource-kept ps qs keeps p wires bits source s is) }

  pub AreAssigns-none : (ps : List Place) → AreAssigns ps test p wires bits [] []
  AreAssigns-none ps = record { are = λ leaf f l at b h d. refl; within = tt }

  pub AreAssigns-kept : (ps qs : List Place) → Keeps ps qs → (assigns : List Assign) (js : List Join) → AreAssigns ps test p wires bits assigns js → AreAssigns qs test p wires bits assigns js
  AreAssigns-kept ps qs keeps assigns js h = record {
    are = λ leaf f l at b k d. h.are leaf f (AreLeaves-before ps qs keeps leaf f l) at b k d;
    within = assigns-within ps qs keeps (length bits) assigns h.within;
  }

  -- nothing more
  pub AreAssigns-same : (ps : List Place) (assigns : List Assign) (js : List Join) → AreAssigns ps test p wires bits assigns js → AreAssigns ps test p wires bits assigns (js ++ [])
  AreAssigns-same ps assigns js h = subst (AreAssigns ps test p wires bits assigns) (sym (append-nil js)) h

  -- a place of a bit that is none of the tree bits
  pub AreAssigns-other : (ps : List Place) (assigns : List Assign) (js : List Join) (j : Join) → IsFound bits j.bit None → AreAssigns ps test p wires bits assigns js → AreAssigns ps test p wires bits assigns (js ++ j ∷ [])
  AreAssigns-other ps assigns js j found h = record {
    are = λ leaf f l at b k d.
        h.are leaf f l at b k d
        ∙ ap (λ d. pick_of test p wires (with_leaves f d)) (ap (λ t. if t then Leaf j.source else after_joins js b d) (found at b k) ∙ sym (after-one js j b d));
    within = h.within;
  }

  -- a place of a tree bit
  pub AreAssigns-next : (ps qs : List Place) (assigns new : List Assign) (js : List Join) (j : Join) (a : Assign) → Keeps ps qs → IsFound bits j.bit (Some a.at) → IsSource qs p wires bits (source_of a) j.source → new ≡ assigns ++ a ∷ []
      → AreAssigns ps test p wires bits assigns js → AreAssigns qs test p wires bits new (js ++ j ∷ [])
  AreAssigns-next ps qs assigns new js j a keeps found from put h =
      let before = AreAssigns-kept ps qs keeps assigns js h in
      rw put (record {
        are = λ leaf f l at b k d.
            assigned-append leaf at assigns (a ∷ []) (pick_of test p wires (with_leaves f d))
            ∙ (λ i. if found at b k i then l.are (source_of a) j.source from i else before.are leaf f l at b k d i)
            ∙ by f (same_bit j.bit b) (after_joins js b d)
            ∙ ap (λ d. pick_of test p wires (with_leaves f d)) (sym (after-one js j b d));
        within = all_end _ assigns a before.within (from.from.within, source_within bits j.source a.tree from.tree);
      })
    where
      by : (f : SigBit → Decision) (t : Bool) (d : Decision) → (if t then pick_of test p wires (f j.source) else pick_of test p wires (with_leaves f d)) ≡ pick_of test p wires (with_leaves f (if t then Leaf j.source else d))
      by f true d = refl
      by f false d = refl

-- one line more, and one place more of a line

flat-append : (js : List Link) (more : Link) → all_joins (js ++ more ∷ []) ≡ all_joins js ++ joins more.left more.right
flat-append [] more = append-nil (joins more.left more.right)
flat-append (l ∷ js) more = ap (λ xs. joins l.left l.right ++ xs) (flat-append js more) ∙ sym (append_assoc (joins l.left l.right) (all_joins js) (joins more.left more.right))

pub lines-next : (lines : List Link) (i : ℕ) (d : Link) → i < length lines → all_joins (take (i + 1) lines) ≡ all_joins (take i lines) ++ joins (get_or lines i d).left (get_or lines i d).right
lines-next lines i d h = ap all_joins (take_more lines i d h) ∙ flat-append (take i lines) (get_or lines i d)

joins-append : (xs ys more others : List SigBit) → length xs ≡ length ys → joins (xs ++ more) (ys ++ others) ≡ joins xs ys ++ joins more others
joins-append [] [] more others h = refl
joins-append [] (y ∷ ys) more others h = absurd (omega arith)
joins-append (x ∷ xs) [] more others h = absurd (omega arith)
joins-append (Fixed c ∷ xs) (y ∷ ys) more others h = joins-append xs ys more others (omega arith)
joins-append (OnWire b ∷ xs) (y ∷ ys) more others h = ap (λ js. record { bit = b; source = y } ∷ js) (joins-append xs ys more others (omega arith))

pub joins-next : (left right : List SigBit) (i : ℕ) (d e : SigBit) → i < length left → i < length right → joins (take (i + 1) left) (take (i + 1) right) ≡ joins (take i left) (take i right) ++ joins (get_or left i d ∷ []) (get_or right i e ∷ [])
joins-next left right i d e a b =
    let long : length (take i left) ≡ length (take i right) = length-take-le i left (omega arith) ∙ sym (length-take-le i right (omega arith)) in
    (λ j. joins (take_more left i d a j) (take_more right i e b j)) ∙ joins-append (take i left) (take i right) (get_or left i d ∷ []) (get_or right i e ∷ []) long

pub joins-all : (n : ℕ) (left right : List SigBit) → min (length left) (length right) ≤ n → joins (take n left) (take n right) ≡ joins left right
joins-all zero [] right h = refl
joins-all zero (x ∷ left) [] h = refl
joins-all zero (x ∷ left) (y ∷ right) h = absurd (omega arith)
joins-all (suc n) [] right h = refl
joins-all (suc n) (x ∷ left) [] h = refl
joins-all (suc n) (Fixed c ∷ left) (y ∷ right) h = joins-all n left right (omega arith)
joins-all (suc n) (OnWire b ∷ left) (y ∷ right) h = ap (λ js. record { bit = b; source = y } ∷ js) (joins-all n left right (omega arith))
