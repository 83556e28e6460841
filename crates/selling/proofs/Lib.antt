pub mod SellingLaws
