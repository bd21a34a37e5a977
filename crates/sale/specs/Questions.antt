-- What a question about a sale is answered.
--   ByBook     a statement about the book that the sale holds, whatever history reached it
--   numbered   the entry with a number, counted from 1, if there is one
use Rattle.std.specs.Prelude.{ℕ, zero, suc, List, None, Option}
use Rattle.std.specs.List.{slice_get}
use Rattle.packages.specs.declared.package.Package.{Ghosts}
use Rattle.packages.specs.Lots.{Lots}
use Rattle.books.specs.Book.{Book}
use Rattle.books.specs.History.{History, book_of}
use Rattle.sale.specs.declared.state.Sale.{Sale}
use Rattle.sale.specs.Holds.{Holds}

abbrev pub ByBook : {P : Type 0} {kind : Ghosts P} → (P → Lots) → Sale P kind → (Book → Type 0) → Type 0
ByBook meaning s Says = (h : History) → Holds meaning s (book_of h) → Says (book_of h)

abbrev pub numbered : {X : Type 0} → List X → ℕ → Option X
numbered xs zero = None
numbered xs (suc n) = slice_get xs n
