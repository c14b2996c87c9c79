-- The steps from a word to the arm of the multiplexer that gives it.
use Rattle.std.proofs.Common.{◌≡◌, ℕ, zero, suc, ◌+◌, arith, Bool, true, false, List, [], ◌∷◌, ◌++◌, length, map, Option, Some, None, ◌⊎◌, inl, inr, ⊎_elim, refl, sym, ◌∙◌, ap, subst}
use Rattle.std.specs.Prelude.{flat_map, if◌then◌else◌, slice_index_or, unwrap_or}
use Rattle.std.specs.Option.{option_map_or}
use Rattle.std.specs.Str.{bytes_eq}
use Rattle.std.proofs.lemmas.Bool.{and_parts}
use Rattle.std.proofs.lemmas.List.{length-append, length-map}
use Rattle.std.proofs.lemmas.Slice.Eq.{bytes_eq-Decides}
use Rattle.cell_types.specs.Kind.{kind_of}
use Rattle.cell_types.specs.PinName.{pin_text}
use Rattle.cell_types.specs.declared.pin_name.PinName.{PinName}
use Rattle.cell_types.specs.declared.pin_name.PinName.TheVariants.{S, Y}
use Rattle.rtl_sig.specs.declared.sig.SigBit.{SigBit}
use Rattle.rtl_ir.specs.Flat.Cell.{cell_kind, listed}
use Rattle.rtl_ir.specs.Follow.{all_joins, back, end_within, follow, follow_joins}
use Rattle.rtl_ir.specs.declared.follow.Join.{Join}
use Rattle.rtl_ir.specs.Parameters.{signal_at}
use Rattle.rtl_ir.specs.Signals.{same_signal}
use Rattle.rtl_ir.specs.declared.cell.Cell.{Cell}
use Rattle.rtl_ir.specs.declared.module.Link.{Link}
use Rattle.net_index.proofs.IndexEnds.{ends_here}
use Rattle.net_model.proofs.Members.{In-right}
use Rattle.net_model.specs.Lists.{In}
use Rattle.pass_laws.proofs.SamePlaces.{signal_is}
use Rattle.opt_expr.specs.Places.{place_of}
use Rattle.opt_more.specs.Muxtree.{arm_of, chooses_as, gives_as, now_at, standing_now, walked}

-- where connections lead to, none leads on from
no_way_on : (js : List Join) (n : ℕ) (s r : SigBit) → end_within js n s ≡ Some r → back js r ≡ None
no_way_on js zero s r e = by (back js s) refl e
  where
    by : (o : Option SigBit) → back js s ≡ o → option_map_or (λ (q : SigBit). None) o (Some s) ≡ Some r → back js r ≡ None
    by None f g = let same : s ≡ r = cc in subst (λ z. back js z ≡ None) same f
    by (Some q) f g = absurd (cc)
no_way_on js (suc n) s r e = by (back js s) refl e (λ q. no_way_on js n q r)
  where
    by : (o : Option SigBit) → back js s ≡ o → option_map_or (end_within js n) o (Some s) ≡ Some r → ((q : SigBit) → end_within js n q ≡ Some r → back js r ≡ None) → back js r ≡ None
    by None f g later = let same : s ≡ r = cc in subst (λ z. back js z ≡ None) same f
    by (Some q) f g later = later q g

-- what a bit follows to, follows to itself
pub follow_twice : (links : List Link) (s : SigBit) → follow links (follow links s) ≡ follow links s
unfolding follow_joins
follow_twice links s = by (end_within (all_joins links) (length (all_joins links)) s) refl
  where
    by : (o : Option SigBit) → end_within (all_joins links) (length (all_joins links)) s ≡ o → unwrap_or (end_within (all_joins links) (length (all_joins links)) (unwrap_or o s)) (unwrap_or o s) ≡ unwrap_or o s
    by None e = ap (λ z. unwrap_or z s) e
    by (Some r) e = ap (λ z. unwrap_or z r) (ends_here (all_joins links) (length (all_joins links)) r (no_way_on (all_joins links) (length (all_joins links)) s r e))

pub followed_twice : (links : List Link) (bits : List SigBit) → map (follow links) (map (follow links) bits) ≡ map (follow links) bits
followed_twice links [] = refl
followed_twice links (b ∷ bits) = (λ i. follow_twice links b i ∷ followed_twice links bits i)

-- where a cell stands now: among the others, or it is the one whose turn it is
abbrev pub StandsNow : List (Option Cell) → Cell → List Cell → Cell → Type 0
StandsNow done c rest e = (In e (flat_map listed done) ⊎ In e rest) ⊎ (e ≡ c)

in_rest : (rest : List Cell) (at : ℕ) (e : Cell) → slice_index_or (map Some rest) at None ≡ Some e → In e rest
in_rest [] at e h = absurd (cc)
in_rest (c ∷ rest) zero e h = inl (let same : c ≡ e = cc in sym same)
in_rest (c ∷ rest) (suc at) e h = inr (in_rest rest at e h)

stands_at : (done : List (Option Cell)) (c : Cell) (rest : List Cell) (at : ℕ) (e : Cell) → slice_index_or (standing_now done c rest) at None ≡ Some e → StandsNow done c rest e
stands_at [] c rest zero e h = inr (let same : c ≡ e = cc in sym same)
stands_at [] c rest (suc at) e h = inl (inr (in_rest rest at e h))
stands_at (slot ∷ done) c rest zero e h = inl (inl (subst (λ o. In e (listed o ++ flat_map listed done)) (sym h) (inl refl)))
stands_at (slot ∷ done) c rest (suc at) e h =
    ⊎_elim
    (λ l. inl (⊎_elim (λ a. inl (In-right e (listed slot) (flat_map listed done) a)) (λ b. inr b) l))
    (λ r. inr r)
    (stands_at done c rest at e h)

-- one step, from a word on
pub record IsStep (arm : PinName) (links : List Link) (done : List (Option Cell)) (c : Cell) (rest : List Cell) (word next : List SigBit) : Type 0 where
  pub cell : Cell
  pub among : StandsNow done c rest cell
  pub kind : cell_kind cell ≡ cell_kind c
  pub select : map (follow links) (signal_at cell.pins (pin_text S)) ≡ signal_at c.pins (pin_text S)
  pub whole : signal_at cell.pins (pin_text Y) ≡ word
  pub leads : map (follow links) (signal_at cell.pins (pin_text arm)) ≡ next

same_kind : (e c : Cell) → e.kind_name ≡ c.kind_name → cell_kind e ≡ cell_kind c
unfolding cell_kind
same_kind e c h = ap kind_of h

module _ (arm : PinName) (links : List Link) (done : List (Option Cell)) (c : Cell) (rest : List Cell) where
  step_is : (word next : List SigBit) (o : Option Cell) → ((e : Cell) → o ≡ Some e → StandsNow done c rest e) → arm_of arm links c word o ≡ Some next → IsStep arm links done c rest word next
  step_is word next None among h = absurd (cc)
  step_is word next (Some e) among h = by (gives_as links c word e) refl h
    where
      by : (t : Bool) → gives_as links c word e ≡ t → (if t then Some (map (follow links) (signal_at e.pins (pin_text arm))) else None) ≡ Some next → IsStep arm links done c rest word next
      by false f g = absurd (cc)
      by true f g =
          let one = and_parts (chooses_as links c e) (same_signal (signal_at e.pins (pin_text Y)) word) f in
          let two = and_parts (bytes_eq e.kind_name c.kind_name) (same_signal (map (follow links) (signal_at e.pins (pin_text S))) (signal_at c.pins (pin_text S))) one.0 in
          record {
            cell = e;
            among = among e refl;
            kind = same_kind e c ((bytes_eq-Decides e.kind_name c.kind_name).0 two.0);
            select = signal_is _ _ two.1;
            whole = signal_is _ _ one.1;
            leads = (let same : map (follow links) (signal_at e.pins (pin_text arm)) ≡ next = cc in same);
          }

  found : (o : Option ℕ) (e : Cell) → now_at (standing_now done c rest) o ≡ Some e → StandsNow done c rest e
  found None e h = absurd (cc)
  found (Some at) e h = stands_at done c rest at e h

  -- what holds of a word, and goes on with each step, holds of where the way ends
  pub walked_keeps : (cells : List Cell) (P : List SigBit → Type 0) → ((word next : List SigBit) → IsStep arm links done c rest word next → P word → P next) → (n : ℕ) (word : List SigBit) → P word → P (walked arm cells (standing_now done c rest) links c n word)
  walked_keeps cells P step zero word h = h
  walked_keeps cells P step (suc n) word h =
      by (arm_of arm links c word (now_at (standing_now done c rest) (place_of cells word))) refl (λ next. walked_keeps cells P step n next)
    where
      by : (o : Option (List SigBit)) → arm_of arm links c word (now_at (standing_now done c rest) (place_of cells word)) ≡ o → ((next : List SigBit) → P next → P (walked arm cells (standing_now done c rest) links c n next)) → P (option_map_or (walked arm cells (standing_now done c rest) links c n) o word)
      by None e later = h
      by (Some next) e later =
          later next (step word next (step_is word next (now_at (standing_now done c rest) (place_of cells word)) (λ q f. found (place_of cells word) q f) e) h)

  -- as many cells as there are before it, itself and behind it
  pub slots_long : length (standing_now done c rest) ≡ (length done + 1) + length rest
  slots_long = length-append done (Some c ∷ map Some rest) ∙ omega (arith, length-map rest Some)
