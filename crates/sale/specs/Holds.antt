-- When a sale holds what a book says, and when a call obeys the rules.
--   permitted   the packages of a sale
--   Holds       the sale has this book; meaning gives the lots of a package of its kind
--   Conforms    the answer is the one that the rules define, and the sale holds the book with this call added
--   Obeys       it is so for every history whose book the sale had before the call
use Rattle.std.specs.Prelude.{◌≡◌, min, List, map, take, vec_items, vec_len}
use Rattle.bids.specs.Limits.{max_packages}
use Rattle.packages.specs.declared.package.Package.{Ghosts}
use Rattle.packages.specs.Lots.{Lots}
use Rattle.books.specs.Book.{Book, Call, Answer, answer}
use Rattle.books.specs.History.{History, then, book_of}
use Rattle.books.specs.Nested.{parents_of}
use Rattle.sale.specs.declared.state.Sale.{Sale}

abbrev pub permitted : {P : Type 0} {kind : Ghosts P} → Sale P kind → List P
permitted s = take (vec_len s.nest.parents) (vec_items s.table)

pub record Holds {P : Type 0} {kind : Ghosts P} (meaning : P → Lots) (s : Sale P kind) (b : Book) : Type 0 where
  pub lots : s.lots ≡ b.lots
  pub space : min max_packages (vec_len s.table) ≡ b.space
  pub packages : map meaning (permitted s) ≡ b.packages
  pub parents : vec_items s.nest.parents ≡ parents_of b.packages
  pub bids : vec_items s.nest.bids ≡ b.bids

pub record Conforms {P : Type 0} {kind : Ghosts P} (meaning : P → Lots) (s : Sale P kind) (h : History) (c : Call) (a : Answer) : Type 0 where
  pub answers : a ≡ answer (book_of h) c
  pub holds : Holds meaning s (book_of (then h c))

abbrev pub Obeys : {P : Type 0} {kind : Ghosts P} → (P → Lots) → Sale P kind → Sale P kind → Call → Answer → Type 0
Obeys meaning before after c a = (h : History) → Holds meaning before (book_of h) → Conforms meaning after h c a
