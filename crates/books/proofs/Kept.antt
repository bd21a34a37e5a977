-- What every call keeps of a book.
use Rattle.std.proofs.Common.{◌≡◌, ℕ, ◌<◌, ◌≤◌, true, List, length, get_or, take, None}
use Rattle.bids.specs.declared.bid.Bid.{Bid}
use Rattle.bids.specs.Bids.{no_bid}
use Rattle.bids.specs.Limits.{max_packages, max_bids}
use Rattle.packages.specs.Lots.{Lots, fits_in}
use Rattle.packages.specs.Nest.{conflict_from}
use Rattle.packages.specs.Places.{no_lots}
use Rattle.books.specs.Book.{Book}
use Rattle.books.specs.Nested.{Lodged}

-- each package fits, and was permitted after those before it
abbrev pub Placed : ℕ → List Lots → Type 0
Placed n ts = (i : ℕ) → i < length ts → (fits_in n (get_or ts i no_lots) ≡ true) × (conflict_from 1 (get_or ts i no_lots) (take i ts) ≡ None)

abbrev pub Bids : List Lots → List Bid → Type 0
Bids ts bs = (i : ℕ) → i < length bs → Lodged ts (get_or bs i no_bid)

pub record Kept (b : Book) : Type 0 where
  pub placed : Placed b.lots b.packages
  pub few : length b.packages ≤ b.space
  pub space : b.space ≤ max_packages
  pub bids_few : length b.bids ≤ max_bids
  pub bids : Bids b.packages b.bids
