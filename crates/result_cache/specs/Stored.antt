-- How a shard stores its history and what it keeps of its keys.
use Rattle.std.specs.Prelude.{◌≡◌, ℕ, ◌+◌, ◌<◌, ◌≤◌, List, [], ◌∷◌, ◌++◌, Option, Some, None, if◌then◌else◌, length, slice_index_or}
use Rattle.std.specs.List.{sum_by}
use Rattle.std.specs.Str.{bytes_eq}
use Rattle.rtl_sig.specs.Names.{AreDistinct}
use Rattle.result_cache.specs.declared.call.Act.{Act}
use Rattle.result_cache.specs.declared.call.Call.{Call}
use Rattle.result_cache.specs.declared.call.Entry.{Entry}
use Rattle.result_cache.specs.declared.call.Kept.{Kept}
use Rattle.result_cache.specs.declared.call.Kept.TheVariants.{Free, Held, Filled}
use Rattle.result_cache.specs.History.{Mode, free, held, filled, state_after, IsLegal, call}
use Rattle.result_cache.specs.Tickets.{given, returned}

-- the call that an entry stands for, by the place of its key among the keys
abbrev pub call_of : List (List ℕ) → Entry → Call
call_of keys e = call e.seat (slice_index_or keys e.place []) e.act

-- the history that entries stand for
abbrev pub calls_of : List (List ℕ) → List Entry → List Call
calls_of keys [] = []
calls_of keys (e ∷ entries) = call_of keys e ∷ calls_of keys entries

-- the key of each entry is among the first n
abbrev pub ArePlaced : ℕ → List Entry → Type 0
ArePlaced n [] = Unit {0}
ArePlaced n (e ∷ entries) = (e.place < n) × ArePlaced n entries

module _ {V : Type 0} where
  -- the mode of a key of which this is kept
  abbrev pub mode_of : Kept V → Mode ℕ
  mode_of Free = free
  mode_of (Held seat) = held seat
  mode_of (Filled number value) = filled number

  -- the value of a key of which this is kept, where it has one
  abbrev pub value_of : Kept V → Option V
  value_of Free = None
  value_of (Held seat) = None
  value_of (Filled number value) = Some value

  -- a held key counts as one, and no other counts
  abbrev pub holds : Kept V → ℕ
  holds Free = 0
  holds (Held seat) = 1
  holds (Filled number value) = 0

  -- how many calls are still to come by right: a held key's ticket is spent, and then its value may be given up
  abbrev pub owes : Kept V → ℕ
  owes Free = 0
  owes (Held seat) = 2
  owes (Filled number value) = 1

  -- what f says of what is kept of a key, or d where it is not among the keys
  abbrev pub look_up : {A : Type 0} → A → (Kept V → A) → List (List ℕ) → List (Kept V) → List ℕ → A
  look_up d f [] kept key = d
  look_up d f (k ∷ keys) [] key = d
  look_up d f (k ∷ keys) (x ∷ kept) key = if bytes_eq k key then f x else look_up d f keys kept key

  -- the value of a key, where it has one, stands for it
  abbrev pub Stands : (V → List ℕ → Type 0) → List ℕ → Kept V → Type 0
  Stands stands_for key Free = Unit {0}
  Stands stands_for key (Held seat) = Unit {0}
  Stands stands_for key (Filled number value) = stands_for value key

  -- each value stands for its key
  abbrev pub AllStand : (V → List ℕ → Type 0) → List (List ℕ) → List (Kept V) → Type 0
  AllStand stands_for [] kept = Unit {0}
  AllStand stands_for (k ∷ keys) [] = Unit {0}
  AllStand stands_for (k ∷ keys) (x ∷ kept) = Stands stands_for k x × AllStand stands_for keys kept

-- what a contract sees of a shard: its history, its keys, and what is kept of each
pub record Contents (V : Type 0) : Type 0 where
  pub history : List Call
  pub keys : List (List ℕ)
  pub kept : List (Kept V)

-- what holds of every shard: no key stands twice; the stored history is legal, and replayed from the start it gives the present shard; each value stands for its key; as many keys are held as tickets are out, and there is room for the calls that are owed
pub record IsSound (V : Type 0) (stands_for : V → List ℕ → Type 0) (keys : List (List ℕ)) (kept : List (Kept V)) (entries : List Entry) (owed room : ℕ) : Type 0 where
  pub beside : length kept ≡ length keys
  pub distinct : AreDistinct keys
  pub placed : ArePlaced (length keys) entries
  pub legal : IsLegal (calls_of keys entries)
  pub replays : (key : List ℕ) → state_after (calls_of keys entries) key ≡ look_up free mode_of keys kept key
  pub stand : AllStand stands_for keys kept
  pub tickets : sum_by holds kept + returned (calls_of keys entries) ≡ given (calls_of keys entries)
  pub counted : owed ≡ sum_by owes kept
  pub reserved : length entries + owed ≤ room

module _ {V : Type 0} where
  -- the value of a key, where it is filled
  abbrev pub value_at : Contents V → List ℕ → Option V
  value_at s key = look_up None value_of s.keys s.kept key

  -- the mode of a key, by the history
  abbrev pub mode_at : Contents V → List ℕ → Mode ℕ
  mode_at s key = state_after s.history key

  -- each key has the value that it had, or none where it had none
  abbrev pub KeepsValues : Contents V → Contents V → Type 0
  KeepsValues old new = (key : List ℕ) → value_at new key ≡ value_at old key

  -- the mode of a key, by what is kept of it
  abbrev pub kept_mode : Contents V → List ℕ → Mode ℕ
  kept_mode s key = look_up free mode_of s.keys s.kept key

  -- how many keys are held
  abbrev pub held_keys : Contents V → ℕ
  held_keys s = sum_by holds s.kept

  -- the history has this call more, at its end
  abbrev pub AddsCall : Contents V → Contents V → ℕ → List ℕ → Act → Type 0
  AddsCall old new seat key act = new.history ≡ old.history ++ call seat key act ∷ []
