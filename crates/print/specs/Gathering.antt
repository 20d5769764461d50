-- Text that is gathered in a page on its way to a writer.
use Rattle.std.specs.Prelude.{ℕ, ◌+◌, ◌≤◌, ◌<◌, ◌≡◌, ◌↔◌, List, ◌++◌, length, take, Option, Result, None, unwrap_or, IsSome, IsOk, IsErr, IfOk, OnOk, Ok}
use Rattle.std.specs.Io.KnownBytes.{append_known, Keeps, Appends}
use Rattle.std.specs.declared.fmt.Error.{Error}
use Rattle.print.specs.declared.gathering.Page.{Page}

-- how many bytes the page holds: none once a write failed
abbrev pub held_count : {W : Type 0} → Page W → ℕ
held_count page = unwrap_or page.held 0

-- what the page holds: the text that is still to be written
abbrev pub held_in : {W : Type 0} → Page W → List ℕ
held_in page = take (held_count page) page.bytes.now

-- how many bytes have room in it
abbrev pub size_of : {W : Type 0} → Page W → ℕ
size_of page = length page.bytes.now

-- the text so far, where the bytes that the writer has are known: those, and what the page holds behind them
abbrev pub text_of : {W : Type 0} → (W → Option (List ℕ)) → Page W → Option (List ℕ)
text_of contents page = append_known (contents page.out) (held_in page)

-- a write failed, or a text was longer than a page
abbrev pub IsCut : {W : Type 0} → Page W → Type 0
IsCut page = page.held ≡ None

-- the page that was lent, and it has the size that it had
abbrev pub SamePage : {W : Type 0} → (old new : Page W) → Type 0
SamePage old new = (new.bytes.ghost_name ≡ old.bytes.ghost_name) × (size_of new ≡ size_of old)

-- a call on the page: it fails where a write fails, now or before; once one failed, the page holds nothing and nothing more is written
pub record Stops {W T : Type 0} (old new : Page W) (r : Result T Error) : Type 0 where
  pub same_page : SamePage old new
  pub cut : IsErr r ↔ IsCut new
  pub stays_cut : IsCut old → IsCut new × (new.out ≡ old.out)

-- What the page held was written, or a write failed, now or before; nothing is held, and the bytes of the page are as they were.
pub record Flushed {W : Type 0} (contents : W → Option (List ℕ)) (old new : Page W) (r : Result (Unit {0}) Error) : Type 0 where
  pub empty : held_count new ≡ 0
  pub kept : new.bytes.now ≡ old.bytes.now
  pub stops : Stops old new r
  pub text : OnOk r (Keeps (text_of contents old) (text_of contents new))

-- There is room for n more bytes behind the place that is given: what the page held stays before it where they fit behind it, and only there.
pub record RoomFor {W : Type 0} (contents : W → Option (List ℕ)) (n : ℕ) (old new : Page W) (r : Result ℕ Error) : Type 0 where
  pub room : IfOk r (λ at. (at ≡ held_count new) × (at + n ≤ size_of old))
  pub stays : IsSome old.held → held_count old + n ≤ size_of old → (r ≡ Ok (held_count old)) × (new ≡ old)
  pub empty : size_of old < held_count old + n → held_count new ≡ 0
  pub stops : Stops old new r
  pub text : OnOk r (Keeps (text_of contents old) (text_of contents new))

-- The text s was put behind what the page held, which was written first where s didn't fit behind it.
pub record Gathers {W : Type 0} (contents : W → Option (List ℕ)) (old : Page W) (s : List ℕ) (new : Page W) (r : Result (Unit {0}) Error) : Type 0 where
  pub behind : IsOk r → held_count old + length s ≤ size_of old → held_in new ≡ held_in old ++ s
  pub alone : IsOk r → size_of old < held_count old + length s → held_in new ≡ s
  pub fits : IsSome old.held → held_count old + length s ≤ size_of old → IsOk r × (new.out ≡ old.out)
  pub stops : Stops old new r
  pub text : OnOk r (Appends (text_of contents old) (text_of contents new) s)
