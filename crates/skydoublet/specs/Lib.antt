-- What the contracts of the reading calls cite. The calls that make, change and parse cite the definitions of the floors below.
pub mod Told
pub mod Parse
