-- The laws of text that is gathered in a page.
use Prim.Native.Nat.{ℕ, ◌+◌, ◌≤◌, ◌<◌}
use mathlib.Core.Path.{◌≡◌, refl, sym, ap, subst, ◌∙◌}
use mathlib.Core.List.{List, ◌++◌, append_assoc}
use native.Mathlib.Omega.{arith}
use lib.ListN.{length, take}
use lib.Seq.{length-take-le, take-append_seam, take-append-add}
use Rattle.std.specs.Prelude.{Option, Result, None, Some, Ok, Err, IsSome}
use Rattle.std.specs.Io.KnownBytes.{append_known, Keeps}
use Rattle.std.proofs.KnownBytes.{append_known-grown}
use Rattle.std.specs.declared.fmt.Error.{Error}
use Rattle.std.proofs.Common.{rules}
use Rattle.lists.proofs.TestLaws.{differ}
use Rattle.print.specs.declared.gathering.Page.{Page}
use Rattle.print.specs.Gathering.{held_count, held_in, size_of, text_of, IsCut, SamePage, Stops, Flushed, RoomFor, Gathers}

-- the text stands behind the first h entries
pub put_behind : (h : ℕ) (page s more : List ℕ) → h ≤ length page → take (h + length s) (take h page ++ (s ++ more)) ≡ take h page ++ s
put_behind h page s more k =
    ap (λ (n : ℕ). take (n + length s) (take h page ++ (s ++ more))) (sym (length-take-le h page k)) ∙ take-append-add (take h page) (s ++ more) (length s) ∙ ap (λ (l : List ℕ). take h page ++ l) (take-append_seam s more)

-- the writer was left alone where an earlier write had failed
stops_cut : {W T : Type 0} {old new : Page W} {r : Result T Error} (e : Error) → SamePage old new → r ≡ Err e → new.held ≡ None → (IsCut old → new.out ≡ old.out) → Stops old new r
stops_cut e same is cut alone = record { same_page = same; cut = (λ _. cut, λ _. search rules); stays_cut = λ h. (cut, alone h) }

-- no earlier write had failed, and none did now
stops_whole : {W T : Type 0} {old new : Page W} {r : Result T Error} (x : T) (n : ℕ) → SamePage old new → r ≡ Ok x → IsSome old.held → new.held ≡ Some n → Stops old new r
stops_whole x n same is whole held = record { same_page = same; cut = (λ h. search rules, λ h. search rules); stays_cut = λ h. search rules }

-- a call that went well began with a page that wasn't cut
whole_before : {W T : Type 0} {old new : Page W} {x : T} → Stops old new (Ok x) → IsSome old.held
whole_before {old} stops = by old.held refl
  where
    by : (h : Option ℕ) → old.held ≡ h → IsSome old.held
    by None e = absurd (differ (stops.cut.1 (stops.stays_cut e).0) refl)
    by (Some n) e = rw e refl

module _ {W : Type 0} (contents : W → Option (List ℕ)) where
  pub flushed_cut : {old new : Page W} (e : Error) → new.bytes.now ≡ old.bytes.now → SamePage old new → new.held ≡ None → (IsCut old → new.out ≡ old.out) → Flushed contents old new (Err e)
  flushed_cut e kept same cut alone = record { empty = search rules; kept = kept; stops = stops_cut e same refl cut alone; text = tt }

  pub flushed : {old new : Page W} → new.bytes.now ≡ old.bytes.now → SamePage old new → IsSome old.held → new.held ≡ Some 0 → Keeps (text_of contents old) (text_of contents new) → Flushed contents old new (Ok tt)
  flushed kept same whole empty text = record { empty = search rules; kept = kept; stops = stops_whole tt 0 same refl whole empty; text = text }

  -- more bytes than a page has room for
  pub no_room : {n : ℕ} {old new : Page W} (e : Error) → SamePage old new → size_of old < n → new.held ≡ None → (IsCut old → new.out ≡ old.out) → RoomFor contents n old new (Err e)
  no_room e same h cut alone = record { room = tt; stays = λ _ k. absurd (omega arith); empty = λ _. search rules; stops = stops_cut e same refl cut alone; text = tt }

  pub emptied : {n : ℕ} {old new : Page W} → n ≤ size_of old → size_of old < held_count old + n → Flushed contents old new (Ok tt) → RoomFor contents n old new (Ok 0)
  emptied h k f = record { room = (sym f.empty, omega arith); stays = λ _ l. absurd (omega arith); empty = λ _. f.empty; stops = record { same_page = f.stops.same_page; cut = f.stops.cut; stays_cut = f.stops.stays_cut }; text = f.text }

  pub gathers_cut : {old new : Page W} {s : List ℕ} (e : Error) → SamePage old new → (IsSome old.held → size_of old < held_count old + length s) → new.held ≡ None → (IsCut old → new.out ≡ old.out) → Gathers contents old s new (Err e)
  gathers_cut e same h cut alone = record { behind = λ o. search rules; alone = λ o. search rules; fits = λ some k. absurd (omega (arith, h some)); stops = stops_cut e same refl cut alone; text = tt }

  -- the text was copied to the part of the page behind what is held
  pub text_put : {old ready new : Page W} {s copied : List ℕ} (more rest : List ℕ) {at : ℕ} → RoomFor contents (length s) old ready (Ok at) → SamePage old new → size_of ready ≡ size_of old → copied ≡ s ++ more → new.bytes.now ≡ take at ready.bytes.now ++ (copied ++ rest)
      → new.held ≡ Some (at + length s) → new.out ≡ ready.out → Gathers contents old s new (Ok tt)
  text_put {old} {ready} {new} {s} {copied} more rest {at} room same size is bytes held alone =
      let place : at ≡ held_count ready = room.room.0 in
      let count : held_count new ≡ at + length s = rw held refl in
      let put : new.bytes.now ≡ take at ready.bytes.now ++ (s ++ (more ++ rest)) = rw (bytes, is, append_assoc) in
      let there : held_in new ≡ take at ready.bytes.now ++ s = rw (count, put) (put_behind at ready.bytes.now s (more ++ rest) (omega (arith, room.room.1))) in
      let grown : held_in new ≡ held_in ready ++ s = there ∙ ap (λ (n : ℕ). take n ready.bytes.now ++ s) place in
      let whole = whole_before room.stops in
      record {
        behind = λ _ k. grown ∙ ap (λ (page : Page W). held_in page ++ s) (room.stays whole k).1;
        alone = λ _ k. grown ∙ ap (λ (n : ℕ). take n ready.bytes.now ++ s) (room.empty k);
        fits = λ _ k. (refl, alone ∙ ap (λ (page : Page W). page.out) (room.stays whole k).1);
        stops = stops_whole tt (at + length s) same refl whole held;
        text = append_known-grown (text_of contents old) (contents new.out) (held_in ready) (held_in new) s (subst (λ (out : W). Keeps (text_of contents old) (append_known (contents out) (held_in ready))) (sym alone) room.text) grown;
      }
