-- The items of a signal stand in their places, and in no others.
use Rattle.std.proofs.Common.{◌≡◌, List, [], ◌∷◌, ◌++◌, Some, true, refl, sym, ap, subst, ◌∙◌, append_assoc}
use Rattle.rtl_lex.specs.declared.sort.Sort.{Sort}
use Rattle.rtl_lex.specs.declared.sort.Sort.TheVariants as sorts
use Rattle.rtl_lex.specs.Items.{Seen}
use Rattle.rtl_grammar.specs.declared.expect.Expect.{Expect}
use Rattle.rtl_grammar.specs.declared.expect.Expect.TheVariants as expects
use Rattle.rtl_grammar.specs.Grammar.{after, Derives}
use Rattle.rtl_grammar.specs.Uses.{Use, roles_of, items_of}
use Rattle.rtl_grammar.proofs.Reading.{ending, ends, some_is}
use Rattle.read_laws.specs.SignalBits.{Written, Plain, At, Slice, Braced, Parts, NoPart, OnePart, is_plain, IsWritten, AreWritten, placed, places_of, places_in, is_behind, may_stand, expected_at}

-- ---- one list of places for the items

pub same_uses : (us vs more other : List Use) (roles : List Expect) → Derives roles (roles_of (us ++ more)) → Derives roles (roles_of (vs ++ other)) → items_of us ≡ items_of vs → us ≡ vs
same_uses [] [] more other roles d e same = refl
same_uses [] (v ∷ vs) more other roles d e same = absurd cc
same_uses (u ∷ us) [] more other roles d e same = absurd cc
same_uses (u ∷ us) (v ∷ vs) more other [] d e same = absurd d
same_uses (u ∷ us) (v ∷ vs) more other (role ∷ roles) d e same =
    let item : u.item ≡ v.item = cc same in
    let items : items_of us ≡ items_of vs = cc same in
    let body : e.1.0 ≡ d.1.0 = some_is e.1.0 d.1.0 (sym e.1.1 ∙ ap (λ (i : Seen). after role i.sort) (sym item) ∙ d.1.1) in
    let one : u ≡ v = ap (λ (r : Expect). placed r u.item) (d.0 ∙ sym e.0) ∙ ap (λ (i : Seen). placed v.role i) item in
    let more_of : us ≡ vs = same_uses us vs more other (d.1.0 ++ roles) d.1.2 (subst (λ (b : List Expect). Derives (b ++ roles) (roles_of (vs ++ other))) body e.1.2) items in
    ap (λ (x : Use). x ∷ us) one ∙ ap (λ (x : List Use). v ∷ x) more_of

-- ---- the places are a derivation

-- at this place a signal begins, behind which this is expected
record Begins (first behind : Expect) (below roles : List Expect) : Type 0 where
  plain : (sort : Sort) → is_plain sort ≡ true → (body : List Expect) × (after first sort ≡ Some body) × (body ++ below ≡ behind ∷ roles)
  brace : (body : List Expect) × (after first sorts.OpenBrace ≡ Some body) × (body ++ below ≡ expects.Inside ∷ behind ∷ roles)

signal_plain : (sort : Sort) → is_plain sort ≡ true → after expects.Signal sort ≡ Some []
signal_plain sorts.Id e = refl
signal_plain sorts.Value e = refl
signal_plain sorts.Int e = refl
signal_plain sorts.Chars e = refl
signal_plain sort e = absurd cc

patterns_plain : (sort : Sort) → is_plain sort ≡ true → after expects.Patterns sort ≡ Some (expects.BehindPattern ∷ [])
patterns_plain sorts.Id e = refl
patterns_plain sorts.Value e = refl
patterns_plain sorts.Int e = refl
patterns_plain sorts.Chars e = refl
patterns_plain sort e = absurd cc

left_plain : (sort : Sort) → is_plain sort ≡ true → after expects.BehindLeft sort ≡ Some (expects.BehindRight ∷ [])
left_plain sorts.Id e = refl
left_plain sorts.Value e = refl
left_plain sorts.Int e = refl
left_plain sorts.Chars e = refl
left_plain sort e = absurd cc

address_plain : (sort : Sort) → is_plain sort ≡ true → after expects.BehindAddress sort ≡ Some (expects.BehindValue ∷ [])
address_plain sorts.Id e = refl
address_plain sorts.Value e = refl
address_plain sorts.Int e = refl
address_plain sorts.Chars e = refl
address_plain sort e = absurd cc

value_plain : (sort : Sort) → is_plain sort ≡ true → after expects.BehindValue sort ≡ Some (expects.BehindEnable ∷ [])
value_plain sorts.Id e = refl
value_plain sorts.Value e = refl
value_plain sorts.Int e = refl
value_plain sorts.Chars e = refl
value_plain sort e = absurd cc

inside_plain : (sort : Sort) → is_plain sort ≡ true → after expects.Inside sort ≡ Some (expects.BehindInside ∷ [])
inside_plain sorts.Id e = refl
inside_plain sorts.Value e = refl
inside_plain sorts.Int e = refl
inside_plain sorts.Chars e = refl
inside_plain sort e = absurd cc

behind_plain : (sort : Sort) → is_plain sort ≡ true → after expects.BehindInside sort ≡ Some (expects.BehindInside ∷ [])
behind_plain sorts.Id e = refl
behind_plain sorts.Value e = refl
behind_plain sorts.Int e = refl
behind_plain sorts.Chars e = refl
behind_plain sort e = absurd cc

signal_begins : (behind : Expect) (roles : List Expect) → Begins expects.Signal behind (behind ∷ roles) roles
signal_begins behind roles = record {
  plain = λ sort e. ([], signal_plain sort e, refl);
  brace = (expects.Inside ∷ [], refl, refl);
}

-- .. or the braces close
record BeginsInside (place : Expect) : Type 0 where
  begins : (roles : List Expect) → Begins place expects.BehindInside roles roles
  closes : after place sorts.CloseBrace ≡ Some []

inside_begins : BeginsInside expects.Inside
inside_begins = record {
  begins = λ roles. record { plain = λ sort e. (expects.BehindInside ∷ [], inside_plain sort e, refl); brace = (expects.Inside ∷ expects.BehindInside ∷ [], refl, refl) };
  closes = refl;
}

behind_begins : BeginsInside expects.BehindInside
behind_begins = record {
  begins = λ roles. record { plain = λ sort e. (expects.BehindInside ∷ [], behind_plain sort e, refl); brace = (expects.Inside ∷ expects.BehindInside ∷ [], refl, refl) };
  closes = refl;
}

behind_index : (behind : Expect) → is_behind behind ≡ true → after behind sorts.OpenIndex ≡ Some (expects.Index ∷ behind ∷ [])
behind_index expects.BehindPin e = refl
behind_index expects.BehindLeft e = refl
behind_index expects.BehindRight e = refl
behind_index expects.BehindSwitch e = refl
behind_index expects.BehindPattern e = refl
behind_index expects.BehindEvent e = refl
behind_index expects.BehindAddress e = refl
behind_index expects.BehindValue e = refl
behind_index expects.BehindEnable e = refl
behind_index expects.BehindInside e = refl
behind_index role e = absurd cc

mutual
  derives_bits : (signal : Written) (first behind : Expect) (below roles : List Expect) (more : List Use) → is_behind behind ≡ true → Begins first behind below roles → IsWritten signal → Derives (behind ∷ roles) (roles_of more) → Derives (first ∷ below) (roles_of (places_of first behind signal ++ more))
  derives_bits (Plain i) first behind below roles more b st w d =
      let p = st.plain i.sort w in
      (refl, (p.0, p.1, subst (λ (x : List Expect). Derives x (roles_of more)) (sym p.2) d))
  derives_bits (At signal left n right) first behind below roles more b st w d =
      let cut : List Use = placed behind left ∷ placed expects.Index n ∷ placed expects.BehindIndex right ∷ [] in
      let bracket : Derives (behind ∷ roles) (roles_of (cut ++ more)) =
      (refl, (expects.Index ∷ behind ∷ [], ap (after behind) w.1 ∙ behind_index behind b, (refl, (expects.BehindIndex ∷ [], ap (after expects.Index) w.2, (refl, ([], ap (after expects.BehindIndex) w.3, d)))))) in
      subst (λ (x : List Use). Derives (first ∷ below) (roles_of x)) (sym (append_assoc (places_of first behind signal) cut more)) (derives_bits signal first behind below roles (cut ++ more) b st w.0 bracket)
  derives_bits (Slice signal left m colon n right) first behind below roles more b st w d =
      let cut : List Use = placed behind left ∷ placed expects.Index m ∷ placed expects.BehindIndex colon ∷ placed expects.LowIndex n ∷ placed expects.IndexEnd right ∷ [] in
      let bracket : Derives (behind ∷ roles) (roles_of (cut ++ more)) =
      (refl, (expects.Index ∷ behind ∷ [], ap (after behind) w.1 ∙ behind_index behind b, (refl, (expects.BehindIndex ∷ [], ap (after expects.Index) w.2, (refl, (expects.LowIndex ∷ [], ap (after expects.BehindIndex) w.3, (refl, (expects.IndexEnd ∷ [], ap (after expects.LowIndex) w.4, (refl, ([], ap (after expects.IndexEnd) w.5, d)))))))))) in
      subst (λ (x : List Use). Derives (first ∷ below) (roles_of x)) (sym (append_assoc (places_of first behind signal) cut more)) (derives_bits signal first behind below roles (cut ++ more) b st w.0 bracket)
  derives_bits (Braced left parts right) first behind below roles more b st w d =
      let inner : Derives (expects.Inside ∷ behind ∷ roles) (roles_of (places_in expects.Inside parts right ++ more)) = derives_all parts right expects.Inside (behind ∷ roles) more inside_begins w.1 w.2 d in
      (refl, (st.brace.0, ap (after first) w.0 ∙ st.brace.1, subst (λ (x : List Expect). Derives x (roles_of (places_in expects.Inside parts right ++ more))) (sym st.brace.2) inner))

  derives_all : (parts : Parts) (right : Seen) (place : Expect) (roles : List Expect) (more : List Use) → BeginsInside place → AreWritten parts → right.sort ≡ sorts.CloseBrace → Derives roles (roles_of more) → Derives (place ∷ roles) (roles_of (places_in place parts right ++ more))
  derives_all NoPart right place roles more st w c d = (refl, ([], ap (after place) c ∙ st.closes, d))
  derives_all (OnePart signal parts) right place roles more st w c d =
      let rest : List Use = places_in expects.BehindInside parts right in
      let inner : Derives (expects.BehindInside ∷ roles) (roles_of (rest ++ more)) = derives_all parts right expects.BehindInside roles more behind_begins w.1 c d in
      subst (λ (x : List Use). Derives (place ∷ roles) (roles_of x)) (sym (append_assoc (places_of place expects.BehindInside signal) rest more)) (derives_bits signal place expects.BehindInside roles roles (rest ++ more) refl (st.begins roles) w.0 inner)

-- ---- wherever a signal may stand

pub stands_behind : (first behind : Expect) → may_stand first behind ≡ true → is_behind behind ≡ true
stands_behind expects.Signal behind e = e
stands_behind expects.Patterns expects.BehindPattern e = refl
stands_behind expects.BehindLeft expects.BehindRight e = refl
stands_behind expects.BehindAddress expects.BehindValue e = refl
stands_behind expects.BehindValue expects.BehindEnable e = refl
stands_behind first behind e = absurd cc

pub stands_so : (signal : Written) (first behind : Expect) (roles : List Expect) (more : List Use) → may_stand first behind ≡ true → IsWritten signal → Derives (behind ∷ roles) (roles_of more) → Derives (expected_at first behind roles) (roles_of (places_of first behind signal ++ more))
stands_so signal expects.Signal behind roles more b w d =
    derives_bits signal expects.Signal behind (behind ∷ roles) roles more b (signal_begins behind roles) w d
stands_so signal expects.Patterns expects.BehindPattern roles more b w d =
    derives_bits signal expects.Patterns expects.BehindPattern roles roles more refl (record { plain = λ sort e. (expects.BehindPattern ∷ [], patterns_plain sort e, refl); brace = (expects.Inside ∷ expects.BehindPattern ∷ [], refl, refl) }) w d
stands_so signal expects.BehindLeft expects.BehindRight roles more b w d =
    derives_bits signal expects.BehindLeft expects.BehindRight roles roles more refl (record { plain = λ sort e. (expects.BehindRight ∷ [], left_plain sort e, refl); brace = (expects.Inside ∷ expects.BehindRight ∷ [], refl, refl) }) w d
stands_so signal expects.BehindAddress expects.BehindValue roles more b w d =
    derives_bits signal expects.BehindAddress expects.BehindValue roles roles more refl (record { plain = λ sort e. (expects.BehindValue ∷ [], address_plain sort e, refl); brace = (expects.Inside ∷ expects.BehindValue ∷ [], refl, refl) }) w d
stands_so signal expects.BehindValue expects.BehindEnable roles more b w d =
    derives_bits signal expects.BehindValue expects.BehindEnable roles roles more refl (record { plain = λ sort e. (expects.BehindEnable ∷ [], value_plain sort e, refl); brace = (expects.Inside ∷ expects.BehindEnable ∷ [], refl, refl) }) w d
stands_so signal first behind roles more b w d = absurd cc

pub only_so : (signal : Written) (first behind : Expect) (roles : List Expect) (uses more : List Use) → may_stand first behind ≡ true → IsWritten signal → items_of uses ≡ items_of (places_of first behind signal) → Derives (expected_at first behind roles) (roles_of (uses ++ more)) → uses ≡ places_of first behind signal
only_so signal first behind roles uses more b w same d =
    same_uses uses (places_of first behind signal) more (ending (behind ∷ roles)) (expected_at first behind roles) d (stands_so signal first behind roles (ending (behind ∷ roles)) b w (ends (behind ∷ roles))) same
