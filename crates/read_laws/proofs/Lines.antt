-- The lines of attributes and pairs: where their items stand, and what they leave.
use Rattle.std.proofs.Common.{◌≡◌, refl, sym, ◌∙◌, ap, subst, true, List, [], ◌∷◌, ◌++◌, length, Some, Result, Ok, arith, append_assoc}
use Rattle.rtl_lex.specs.declared.sort.Sort.{Sort}
use Rattle.rtl_lex.specs.declared.sort.Sort.TheVariants as sorts
use Rattle.rtl_lex.specs.Items.{Seen}
use Rattle.rtl_sig.specs.declared.sig.SigBit.{SigBit}
use Rattle.rtl_ir.specs.declared.module.Link.{Link}
use Rattle.rtl_grammar.specs.declared.expect.Expect.{Expect}
use Rattle.rtl_grammar.specs.declared.expect.Expect.TheVariants as expects
use Rattle.rtl_grammar.specs.Grammar.{after, Derives}
use Rattle.rtl_grammar.specs.Uses.{Use, roles_of, run}
use Rattle.rtl_read.specs.declared.attributes.Attributes.{Attributes}
use Rattle.rtl_read.specs.declared.draft.Draft.{Draft}
use Rattle.rtl_read.specs.declared.draft.PairKind.{PairKind}
use Rattle.rtl_read.specs.declared.draft.PairKind.TheVariants.{Connect, Assign, Update}
use Rattle.rtl_read.specs.declared.signal.OpenSignal.{OpenSignal}
use Rattle.rtl_read.specs.declared.read_fault.ReadFault.{ReadFault}
use Rattle.rtl_read.specs.Act.{act}
use Rattle.rtl_read.specs.Act.Pair.{put_pair, close_pair, act_behind_right}
use Rattle.rtl_read.specs.Meaning.Attribute.{with_attribute}
use Rattle.rtl_read.specs.Signal.{no_signal}
use Rattle.read_laws.specs.SignalBits.{Written, IsWritten, places_of, placed, may_stand, taken_at}
use Rattle.read_laws.specs.ConstantBits.{is_constant}
use Rattle.read_laws.specs.Lines.{AttributeLine, PairLine, AreAttributes, HaveAttributes, GivesBits, GivesLink, attribute_places, pair_places}
use Rattle.read_laws.proofs.SignalBits.{bind_on, then_runs, bits_so}
use Rattle.read_laws.proofs.Places.{stands_so}
use Rattle.read_laws.proofs.ConstantBits.{as_value}

-- ---- what they do

abbrev pub fine : Draft → Result Draft ReadFault
fine d = Ok d

-- an item, and then others
pub one_step : (role : Expect) (i : Seen) (us : List Use) (x y z : Draft) → act role i x ≡ Ok y → run act y us ≡ Ok z → run act x (placed role i ∷ us) ≡ Ok z
one_step role i us x y z e f = bind_on (act role i x) y (λ (n : Draft). run act n us) e ∙ f

-- a signal, and then others
pub signal_step : (signal : Written) (bits : List SigBit) (first behind : Expect) (before d z : Draft) (us : List Use) → may_stand first behind ≡ true → taken_at first before ≡ Some d → IsWritten signal → GivesBits d.current.body.wires d.current.wire_names signal bits → length d.signal.braces ≡ 0 → ((s : OpenSignal) → s.part ≡ bits → run act (record d { signal = s }) us ≡ Ok z) → run act before (places_of first behind signal ++ us) ≡ Ok z
signal_step signal bits first behind before d z us b t w g none rest =
    let got = bits_so signal bits first behind before d b t w g.0 (omega (arith, g.1, none)) in
    then_runs act (places_of first behind signal) us before (record d { signal = got.0 }) z got.1 (rest got.0 got.2)

-- the word of an attribute may stand here, and does nothing
abbrev pub Stays : Expect → Type 0
Stays place = (i : Seen) (x : Draft) → i.sort ≡ sorts.Attribute → act place i x ≡ Ok x

pub attributes_run : (first next : Expect) (lines : List AttributeLine) (d : Draft) (before last : Attributes) → Stays first → Stays next → AreAttributes lines → HaveAttributes lines before last → run act (record d { attributes = before; name = [] }) (attribute_places first next lines) ≡ Ok (record d { attributes = last; name = [] })
attributes_run first next [] d before last f n w h = ap (λ (a : Attributes). Ok (record d { attributes = a; name = [] })) (sym h)
attributes_run first next (a ∷ more) d before last f n w h =
    let x : Draft = record d { attributes = before; name = [] } in
    let y : Draft = record x { name = a.name.text } in
    let z : Draft = record d { attributes = with_attribute a.name.text h.0 before; name = [] } in
    let end : Draft = record d { attributes = last; name = [] } in
    let others : List Use = attribute_places next next more in
    one_step first a.word (placed expects.AttributeName a.name ∷ placed expects.AttributeValue a.value ∷ placed expects.EndOfLine a.line ∷ others) x x end (f a.word x w.0)
    (one_step expects.AttributeName a.name (placed expects.AttributeValue a.value ∷ placed expects.EndOfLine a.line ∷ others) x y end refl
    (one_step expects.AttributeValue a.value (placed expects.EndOfLine a.line ∷ others) y z end (as_value a.value h.0 expects.AttributeValue y refl h.1)
    (one_step expects.EndOfLine a.line others z z end refl (attributes_run next next more d (with_attribute a.name.text h.0 before) last n n w.4 h.2))))

closes_so : (kind : PairKind) (d : Draft) (left : List SigBit) (s : OpenSignal) → close_pair (record d { pair = kind; left = left; signal = s }) ≡ record (put_pair kind (record { left = left; right = s.part }) d) { pair = Connect; left = []; signal = no_signal }
closes_so Connect d left s = refl
closes_so Assign d left s = refl
closes_so Update d left s = refl

-- a pair leaves its link
pub pair_run : (place : Expect) (kind : PairKind) (p : PairLine) (link : Link) (d : Draft) → act place p.word d ≡ Ok (record d { pair = kind }) → IsWritten p.left → IsWritten p.right → p.line.sort ≡ sorts.Line → GivesLink d.current.body.wires d.current.wire_names p link → length d.signal.braces ≡ 0 → run act d (pair_places place p) ≡ Ok (record (put_pair kind link d) { pair = Connect; left = []; signal = no_signal })
pair_run place kind p link d starts l r line g none =
    let closed : List SigBit → List SigBit → Draft = λ (left right : List SigBit). record (put_pair kind (record { left = left; right = right }) d) { pair = Connect; left = []; signal = no_signal } in
    let end : Draft = closed link.left link.right in
    let x : Draft = record d { pair = kind } in
    let tail : List Use = placed expects.BehindRight p.line ∷ [] in
    let right : List Use = places_of expects.BehindLeft expects.BehindRight p.right ++ tail in
    one_step place p.word (places_of expects.Signal expects.BehindLeft p.left ++ right) d x end starts
    (signal_step p.left link.left expects.Signal expects.BehindLeft x x end right refl refl l g.0 none
    (λ (s : OpenSignal) (e : s.part ≡ link.left).
    signal_step p.right link.right expects.BehindLeft expects.BehindRight (record x { signal = s }) (record x { left = s.part; signal = no_signal }) end tail refl refl r g.1 refl
    (λ (t : OpenSignal) (e' : t.part ≡ link.right).
    let y : Draft = record x { left = s.part; signal = t } in
    ap (λ (sort : Sort). fine (act_behind_right sort p.line y)) line
    ∙ ap (λ (n : Draft). fine n) (closes_so kind d s.part t)
    ∙ ap (λ (b : List SigBit). fine (closed b t.part)) e
    ∙ ap (λ (b : List SigBit). fine (closed link.left b)) e')))

-- ---- where they stand

value_stands : (sort : Sort) → is_constant sort ≡ true → after expects.AttributeValue sort ≡ Some (expects.EndOfLine ∷ [])
value_stands sorts.Value c = refl
value_stands sorts.Int c = refl
value_stands sorts.Chars c = refl
value_stands sort c = absurd cc

-- what is expected behind attributes
abbrev pub behind_all : Expect → Expect → List Expect → List AttributeLine → List Expect
behind_all first next body [] = first ∷ []
behind_all first next body (a ∷ lines) = next ∷ body

-- .. behind the word the name stands, and then what stands at the other place
pub attributes_stand : (first next : Expect) (lines : List AttributeLine) (body : List Expect) (roles : List Expect) (more : List Use) → after first sorts.Attribute ≡ Some (expects.AttributeName ∷ next ∷ body) → after next sorts.Attribute ≡ Some (expects.AttributeName ∷ next ∷ []) → AreAttributes lines → Derives (behind_all first next body lines ++ roles) (roles_of more) → Derives (first ∷ roles) (roles_of (attribute_places first next lines ++ more))
attributes_stand first next [] body roles more f n w d = d
attributes_stand first next (a ∷ lines) body roles more f n w d = (
  refl,
  (
    expects.AttributeName ∷ next ∷ body,
    ap (after first) w.0 ∙ f,
    (
      refl,
      (
        expects.AttributeValue ∷ [],
        ap (after expects.AttributeName) w.1,
        (
          refl,
          (
            expects.EndOfLine ∷ [],
            value_stands a.value.sort w.2,
            (refl, ([], ap (after expects.EndOfLine) w.3, attributes_stand next next lines [] (body ++ roles) more n n w.4 (same lines d))),
          ),
        ),
      ),
    ),
  ),
)
  where
    same : (ls : List AttributeLine) → Derives ((next ∷ body) ++ roles) (roles_of more) → Derives (behind_all next next [] ls ++ (body ++ roles)) (roles_of more)
    same [] e = e
    same (l ∷ ls) e = e

pub pair_stands : (place : Expect) (word : Sort) (p : PairLine) (roles : List Expect) (more : List Use) → after place word ≡ Some (expects.Signal ∷ expects.BehindLeft ∷ place ∷ []) → p.word.sort ≡ word → IsWritten p.left → IsWritten p.right → p.line.sort ≡ sorts.Line → Derives (place ∷ roles) (roles_of more) → Derives (place ∷ roles) (roles_of (pair_places place p ++ more))
pair_stands place word p roles more a w l r line d =
    let left : List Use = places_of expects.Signal expects.BehindLeft p.left in
    let right : List Use = places_of expects.BehindLeft expects.BehindRight p.right in
    let tail : List Use = placed expects.BehindRight p.line ∷ [] in
    let shape : (left ++ (right ++ tail)) ++ more ≡ left ++ (right ++ (tail ++ more)) = append_assoc left (right ++ tail) more ∙ ap (λ (us : List Use). left ++ us) (append_assoc right tail more) in (
      refl,
      (
        expects.Signal ∷ expects.BehindLeft ∷ place ∷ [],
        ap (after place) w ∙ a,
        subst (λ (us : List Use). Derives (expects.Signal ∷ expects.BehindLeft ∷ place ∷ roles) (roles_of us)) (sym shape)
            (stands_so p.left expects.Signal expects.BehindLeft (place ∷ roles) (right ++ (tail ++ more)) refl l
            (stands_so p.right expects.BehindLeft expects.BehindRight (place ∷ roles) (tail ++ more) refl r (refl, ([], ap (after expects.BehindRight) line, d)))),
      ),
    )
