-- What holds of the packages and the bids of every book that a history reaches.
--   Contains          package g stands wholly within package f
--   parents_of        for each package the number of the innermost earlier package around it
--   parent_of, Parent the parent of one package, computed, and what it is in words
--   Nest              what holds of the packages
--   Lodged            what holds of a bid
--   Sound             what holds of a book
--   AlwaysSound       it holds of the book of every history
use Rattle.std.specs.Prelude.{◌≡◌, ℕ, ◌-◌, ◌<◌, ◌≤◌, ◌⊎◌, List, [], ◌∷◌, ◌++◌, length, Some, None, Option, ◌≢◌, slice_index_or}
use Rattle.bids.specs.declared.bid.Bid.{Bid}
use Rattle.bids.specs.Bids.{bid_at}
use Rattle.bids.specs.Limits.{max_packages, max_bids, highest_buyer, highest_price}
use Rattle.packages.specs.declared.relation.Relation.TheVariants.{Equal, Crossing}
use Rattle.packages.specs.Lots.{Lots}
use Rattle.packages.specs.Nest.{innermost_from}
use Rattle.packages.specs.Sets.{Within, Disjoint, Fits, Stands}
use Rattle.packages.specs.Places.{package_at, Numbered}
use Rattle.books.specs.Book.{Book}
use Rattle.books.specs.History.{History, book_of}

abbrev pub Contains : List Lots → ℕ → ℕ → Type 0
Contains ts f g = Within (package_at ts g) (package_at ts f)

-- the parents of the packages ts, which stand after the packages earlier
abbrev pub parents_after : List Lots → List Lots → List (Option ℕ)
parents_after earlier [] = []
parents_after earlier (t ∷ ts) = innermost_from 1 t earlier ∷ parents_after (earlier ++ (t ∷ [])) ts

abbrev pub parents_of : List Lots → List (Option ℕ)
parents_of = parents_after []

abbrev pub parent_of : List Lots → ℕ → Option ℕ
parent_of ts g = slice_index_or (parents_of ts) (g - 1) None

-- f is the innermost of the other packages that contain package g, or there is none
abbrev pub Parent : List Lots → ℕ → Option ℕ → Type 0
Parent ts g None = (e : ℕ) → Numbered ts e → (e ≢ g) → Contains ts e g → ⊥
Parent ts g (Some f) =
    Numbered ts f × (f ≢ g) × Contains ts f g
    × ((e : ℕ) → Numbered ts e → (e ≢ g) → Contains ts e g → Contains ts e f)

pub record Nest (lots : ℕ) (ts : List Lots) : Type 0 where
  -- every package fits
  pub fits : (g : ℕ) → Numbered ts g → Fits lots (package_at ts g)
  -- no two packages are equal
  pub different : (f g : ℕ) → Numbered ts f → Numbered ts g → (f ≢ g) → Stands (package_at ts f) (package_at ts g) Equal → ⊥
  -- no two packages cross
  pub uncrossed : (f g : ℕ) → Numbered ts f → Numbered ts g → Stands (package_at ts f) (package_at ts g) Crossing → ⊥
  -- of two packages one contains the other or they share no lot
  pub nested : (f g : ℕ) → Numbered ts f → Numbered ts g → Contains ts f g ⊎ (Contains ts g f ⊎ Disjoint (package_at ts f) (package_at ts g))
  -- a containing package has the lower number
  pub lower : (f g : ℕ) → Numbered ts f → Numbered ts g → (f ≢ g) → Contains ts f g → f < g
  pub parent : (g : ℕ) → Numbered ts g → Parent ts g (parent_of ts g)
  -- two packages with one parent, or with none, share no lot
  pub siblings : (f g : ℕ) → Numbered ts f → Numbered ts g → (f ≢ g) → parent_of ts f ≡ parent_of ts g → Disjoint (package_at ts f) (package_at ts g)

pub record Lodged (packages : List Lots) (b : Bid) : Type 0 where
  pub buyer : (1 ≤ b.buyer) × (b.buyer ≤ highest_buyer)
  pub price : (1 ≤ b.price) × (b.price ≤ highest_price)
  pub on_package : Numbered packages b.«package»

pub record Sound (b : Book) : Type 0 where
  pub nest : Nest b.lots b.packages
  pub bids : (n : ℕ) → 1 ≤ n → n ≤ length b.bids → Lodged b.packages (bid_at b.bids n)
  pub packages_few : length b.packages ≤ max_packages
  pub bids_few : length b.bids ≤ max_bids
  pub within_space : length b.packages ≤ b.space
  pub space_few : b.space ≤ max_packages

abbrev pub AlwaysSound : Type 0
AlwaysSound = (h : History) → Sound (book_of h)
