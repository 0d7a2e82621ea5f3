-- No second command and no second buffer fit a line. Assumes nothing.
use mathlib.Core.Path.{◌≡◌, refl, sym, ap, ap₂, ◌∙◌}
use mathlib.Core.List.{List, [], ◌∷◌, ◌++◌}
use Rattle.std.specs.Prelude.{Option, Some, None}
use Prim.Native.Nat.{ℕ, ◌+◌, ◌≤◌}
use native.Mathlib.Numerals.{add-one}
use native.Mathlib.Omega.{arith}
use lib.ListN.{length, get_or, take, drop, length-drop, take-append-drop}
use lib.Seq.{length-take-le}
use Rattle.script.specs.Command.{Meaning, told, symbols_of, Reads}
use Rattle.script.specs.Command.Meaning.{new, add, delete, parse, collect, restart, list, malformed}
use Rattle.script.specs.declared.command.Command.{Command}
use Rattle.script.specs.declared.command.Command.TheVariants.{New, Add, Delete, Parse, Collect, Restart, List as Listing}
use Rattle.script.proofs.Meaning.{means-one}

-- the command and the symbols that tell a meaning

command_of : Meaning → Option Command
command_of (new s r l) = Some (New s r l)
command_of (add x w) = Some (Add (length w))
command_of (delete x w) = Some (Delete (length w))
command_of (parse w) = Some (Parse (length w))
command_of collect = Some Collect
command_of restart = Some Restart
command_of list = Some Listing
command_of malformed = None

symbols_in : Meaning → List ℕ
symbols_in (new s r l) = []
symbols_in (add x w) = x ∷ w
symbols_in (delete x w) = x ∷ w
symbols_in (parse w) = w
symbols_in collect = []
symbols_in restart = []
symbols_in list = []
symbols_in malformed = []

right-length : (n : ℕ) (a : List ℕ) → n + 1 ≤ length a → length (take n (drop 1 a)) ≡ n
right-length n a l = length-take-le n (drop 1 a) (omega (arith, length-drop 1 a))

command_told : (a : List ℕ) (r : Option Command) → symbols_of r ≤ length a → command_of (told a r) ≡ r
unfolding command_of
command_told a (Some (New s r l)) h = refl
command_told a (Some (Add n)) h = ap (λ k. Some (Add k)) (right-length n a h)
command_told a (Some (Delete n)) h = ap (λ k. Some (Delete k)) (right-length n a h)
command_told a (Some (Parse n)) h = ap (λ k. Some (Parse k)) (length-take-le n a h)
command_told a (Some Collect) h = refl
command_told a (Some Restart) h = refl
command_told a (Some Listing) h = refl
command_told a None h = refl

left-first : (n : ℕ) (a : List ℕ) → n + 1 ≤ length a → get_or a 0 0 ∷ take n (drop 1 a) ≡ take (n + 1) a
left-first n [] h = absurd (omega arith)
left-first n (x ∷ a) h = ap (λ k. take k (x ∷ a)) (sym (add-one n))

symbols-told : (a : List ℕ) (r : Option Command) → symbols_of r ≤ length a → symbols_in (told a r) ≡ take (symbols_of r) a
unfolding symbols_in
symbols-told a (Some (New s r l)) h = refl
symbols-told a (Some (Add n)) h = left-first n a h
symbols-told a (Some (Delete n)) h = left-first n a h
symbols-told a (Some (Parse n)) h = refl
symbols-told a (Some Collect) h = refl
symbols-told a (Some Restart) h = refl
symbols-told a (Some Listing) h = refl
symbols-told a None h = refl

pub reads-one : {line before a b : List ℕ} {q r : Option Command} → 256 ≤ length a → 256 ≤ length b → Reads line before a q → Reads line before b r
    → (q ≡ r) × (a ≡ b)
reads-one {line} {before} {a} {b} {q} {r} la lb x y =
    let m = means-one x.means y.means in
    let e : q ≡ r = sym (command_told a q (omega (arith, x.few))) ∙ ap command_of m ∙ command_told b r (omega (arith, y.few)) in
    let t : take (symbols_of q) a ≡ take (symbols_of r) b = sym (symbols-told a q (omega (arith, x.few))) ∙ ap symbols_in m ∙ symbols-told b r (omega (arith, y.few)) in
    let d : drop (symbols_of q) a ≡ drop (symbols_of r) b = x.beyond ∙ ap (λ c. drop (symbols_of c) before) e ∙ sym y.beyond in
    (e, sym (take-append-drop (symbols_of q) a) ∙ ap₂ (λ u v. u ++ v) t d ∙ take-append-drop (symbols_of r) b)
