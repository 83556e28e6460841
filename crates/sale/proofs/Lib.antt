pub mod SaleLaws
