pub mod Rows
pub mod Laying
pub mod Fitting
